-- Kernel images as twenty words, and words decoded as kernel images.
use Rattle.std.specs.Prelude.{ℕ, suc, ◌+◌, ◌-◌, ◌*◌, ◌/◌, ◌%◌, ◌==◌, List, [], ◌∷◌, ◌++◌, slice_index, slice_index_or, Option, Some, None, if◌then◌else◌}
use Rattle.scram_types.specs.declared.rows.World.{World}
use Rattle.scram_types.specs.declared.ids.ConfId.{ConfId}
use Rattle.scram_types.specs.declared.ids.ProcId.{ProcId}
use Rattle.scram_types.specs.declared.orders.KMode.{KMode}
use Rattle.scram_types.specs.declared.orders.KMode.TheVariants.{Stable, Moving}
use Rattle.scram_types.specs.Eights.{eight}
use Rattle.scram_types.specs.Lookups.{conf_id, proc_id}
use Rattle.bank_words.specs.declared.images.KernelImage.{KernelImage}
use Rattle.bank_words.specs.Numbers.{decode, encode}

-- The word that encodes an optional configuration: 0 for `None`, and the configuration's number plus 1 otherwise.
abbrev pub conf_word : Option ConfId → ℕ
conf_word None = 0
conf_word (Some c) = suc c.0

-- The five words of a kernel mode. For a stable mode they are 0, the configuration, and three zeros. For a
-- reconfiguration they are 1, the configuration that is left, the word of the configuration that halts (`conf_word`),
-- the target, and the frame in which the phases began.
abbrev pub mode_words : KMode → List ℕ
mode_words (Stable c) = 0 ∷ c.0 ∷ 0 ∷ 0 ∷ 0 ∷ []
mode_words (Moving from halting to since) = 1 ∷ from.0 ∷ conf_word halting ∷ to.0 ∷ since ∷ []

-- The word that encodes an optional keeper, the processor that keeps an application's area: 0 for `None`, and the
-- processor's number plus 1 otherwise.
abbrev pub keeper_word : Option ProcId → ℕ
keeper_word None = 0
keeper_word (Some p) = suc p.0

-- The words of the keepers of the eight applications.
abbrev pub keeper_words : List (Option ProcId) → List ℕ
keeper_words keepers = eight (λ a. keeper_word (slice_index_or keepers a None))

-- The word of the factors, in which byte `i` is the value of factor `i`.
abbrev pub factors_word : List ℕ → ℕ
factors_word values =
    slice_index values 0 + 256 * slice_index values 1 + 65536 * slice_index values 2
    + 16777216 * slice_index values 3 + 4294967296 * slice_index values 4 + 1099511627776 * slice_index values 5

-- The twenty words of a kernel image, in the order of docs/FORMATS.md.
abbrev pub kernel_encode : KernelImage → List ℕ
kernel_encode k =
    k.frame
    ∷ slice_index (mode_words k.mode) 0 ∷ slice_index (mode_words k.mode) 1 ∷ slice_index (mode_words k.mode) 2
    ∷ slice_index (mode_words k.mode) 3 ∷ slice_index (mode_words k.mode) 4
    ∷ k.env.up ∷ factors_word k.env.factors
    ∷ (keeper_words k.keepers ++ encode k.world.alt ∷ encode k.world.climb ∷ encode k.world.heading ∷ encode k.world.bank ∷ [])

-- The lowest byte of a word.
abbrev pub last_byte : ℕ → ℕ
last_byte word = word % 256

-- The configuration that a word encodes, or `None` if the word is 0.
abbrev pub conf_of : ℕ → Option ConfId
conf_of word = if word == 0 then None else Some (conf_id (last_byte (word - 1)))

-- The processor that a word encodes, or `None` if the word is 0.
abbrev pub keeper_of : ℕ → Option ProcId
keeper_of word = if word == 0 then None else Some (proc_id (last_byte (word - 1)))

-- The keepers of the eight applications that eight words encode.
abbrev pub keepers_of : List ℕ → List (Option ProcId)
keepers_of words = eight (λ a. keeper_of (slice_index words a))

-- The kernel mode that five words encode.
abbrev pub mode_in_words : List ℕ → KMode
mode_in_words words =
    if slice_index words 0 == 0 then Stable (conf_id (last_byte (slice_index words 1)))
    else Moving
    (conf_id (last_byte (slice_index words 1)))
    (conf_of (slice_index words 2))
    (conf_id (last_byte (slice_index words 3)))
    (slice_index words 4 % 4294967296)

-- The values of the six factors that a word encodes.
abbrev pub factors_of : ℕ → List ℕ
factors_of word =
    last_byte word ∷ last_byte (word / 256) ∷ last_byte (word / 65536)
    ∷ last_byte (word / 16777216) ∷ last_byte (word / 4294967296) ∷ last_byte (word / 1099511627776) ∷ []

-- The world that four words encode.
abbrev pub world_of : List ℕ → World
world_of words = record {
  alt = decode (slice_index words 0);
  climb = decode (slice_index words 1);
  heading = decode (slice_index words 2);
  bank = decode (slice_index words 3);
}

-- The kernel image that twenty words encode.
abbrev pub kernel_decode : List ℕ → KernelImage
kernel_decode words = record {
  frame = slice_index words 0 % 4294967296;
  mode = mode_in_words (slice_index words 1 ∷ slice_index words 2 ∷ slice_index words 3 ∷ slice_index words 4 ∷ slice_index words 5 ∷ []);
  env = record { up = last_byte (slice_index words 6); factors = factors_of (slice_index words 7) };
  keepers = keepers_of (eight (λ a. slice_index words (8 + a)));
  world = world_of (slice_index words 16 ∷ slice_index words 17 ∷ slice_index words 18 ∷ slice_index words 19 ∷ []);
}
