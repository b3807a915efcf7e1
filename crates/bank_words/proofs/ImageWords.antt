-- The words of a kernel image decode to the image.
use Rattle.std.proofs.Common.{◌≡◌, ℕ, refl, List, [], ◌∷◌, ◌++◌, ◌%◌}
use Rattle.std.specs.Prelude.{slice_index}
use Rattle.scram_types.specs.Eights.{eight}
use Rattle.bank_words.specs.declared.images.KernelImage.{KernelImage}
use Rattle.bank_words.specs.Images.{factors_of, keepers_of, kernel_decode, last_byte, mode_in_words}
use Rattle.bank_words.specs.Numbers.{decode}

pub image_back : (k : KernelImage) (mode keepers : List ℕ) (frame up factors alt climb heading bank : ℕ)
    → frame % 4294967296 ≡ k.frame → mode_in_words mode ≡ k.mode → last_byte up ≡ k.env.up → factors_of factors ≡ k.env.factors → keepers_of keepers ≡ k.keepers
    → decode alt ≡ k.world.alt → decode climb ≡ k.world.climb → decode heading ≡ k.world.heading → decode bank ≡ k.world.bank
    → kernel_decode (frame ∷ slice_index mode 0 ∷ slice_index mode 1 ∷ slice_index mode 2 ∷ slice_index mode 3 ∷ slice_index mode 4
    ∷ up ∷ factors ∷ (eight (slice_index keepers) ++ alt ∷ climb ∷ heading ∷ bank ∷ [])) ≡ k
image_back k mode keepers frame up factors alt climb heading bank e f g h i j l m n = rw (e, f, g, h, i, j, l, m, n) refl
