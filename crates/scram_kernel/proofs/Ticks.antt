-- Lemmas on the kernel after it has ended one more frame.
use Rattle.std.proofs.Common.{◌≡◌, ◌∙◌, ℕ, suc, ◌+◌, ◌<◌, ◌≤◌, refl, ap, subst, sym, arith, List, [], ◌∷◌, ◌++◌}
use Rattle.std.specs.Prelude.{ℤ, Option}
use Rattle.scram_types.specs.declared.rows.Env.{Env}
use Rattle.scram_types.specs.declared.rows.Report.{Report}
use Rattle.scram_types.specs.declared.rows.Row.{Row}
use Rattle.scram_types.specs.declared.ids.ProcId.{ProcId}
use Rattle.scram_types.specs.Scripts.{ScriptParts}
use Rattle.scram_types.specs.Specification.{IsSpec, Parts}
use Rattle.bank_words.specs.declared.images.KernelImage.{KernelImage}
use Rattle.fault_script.specs.declared.walks.Walk.{Walk}
use Rattle.fault_script.specs.Environments.{env_at}
use Rattle.fault_script.specs.Walks.{IsWalk}
use Rattle.frame_model.specs.declared.readings.Reading.{Reading}
use Rattle.frame_model.specs.Flights.{row_at, state_after}
use Rattle.frame_model.specs.Readings.{as_list, ended, read_row, reading_of, report_of}
use Rattle.frame_model.specs.States.{State}
use Rattle.scram_types.proofs.Searches.{length_listed}
use Rattle.frame_model.proofs.ReadLaws.{row_by_row}
use Rattle.scram_kernel.specs.Drawing.{keepers_drawn, row_drawn}
use Rattle.frame_model.specs.Storage.{kernel_image}
use Rattle.scram_kernel.specs.Images.{image_given, image_next, state_left}
use Rattle.scram_kernel.specs.Kernels.{HoldsFlight, KernelKeeps, KernelParts, kernel_after, rows_below}
use Rattle.scram_kernel.specs.Marks.{AreImages, AreMarks}
use Rattle.scram_kernel.proofs.Rows.{keepers_are, row_is}
use Rattle.frame_model.specs.Frames.{sys_of}

-- `row`, `keepers` and `next` are the results of a tick that ends frame `n`. The marks and images are those after
-- frame `n`. The row, the keepers and the next image are computed from the marks and images.
pub record Ticks (spec : Parts) (script : ScriptParts) (n : ℕ) (image : KernelImage) (areas : List (List ℤ)) (marks : List ℕ) (images : List (List ℤ)) (v : Env)
    (row : Row) (keepers : List (Option ProcId)) (next : KernelImage) : Type 0 where
  pub facts : IsSpec spec
  pub marks_are : AreMarks spec script (suc n) marks
  pub images_are : AreImages spec script (suc n) images
  pub env_is : v ≡ env_at spec script (suc n)
  pub row_is : row ≡ row_drawn spec image marks images areas
  pub keepers_are : keepers ≡ keepers_drawn spec image marks
  pub next_is : next ≡ image_next spec row keepers v

left : (spec : Parts) (script : ScriptParts) (n : ℕ) (row : Row) (keepers : List (Option ProcId)) → row ≡ row_at spec script n → keepers ≡ (state_after spec script (suc n)).keepers
    → state_left spec row keepers ≡ state_after spec script (suc n)
left spec script n row keepers is_row is_keepers = rw (is_keepers, is_row) refl

image_left : (spec : Parts) (script : ScriptParts) (n : ℕ) (row : Row) (keepers : List (Option ProcId)) (v : Env) → row ≡ row_at spec script n → keepers ≡ (state_after spec script (suc n)).keepers
    → v ≡ env_at spec script (suc n) → image_next spec row keepers v ≡ kernel_image spec script (suc n)
image_left spec script n row keepers v is_row is_keepers is_env =
    let at : row.frame + 1 ≡ suc n = ap (λ (r : Row). r.frame + 1) is_row ∙ omega arith in
    ap (λ f. image_given spec (sys_of f 0 (state_left spec row keepers)) v) at
    ∙ ap (λ (s : State). image_given spec (sys_of (suc n) 0 s) v) (left spec script n row keepers is_row is_keepers)
    ∙ ap (image_given spec (sys_of (suc n) 0 (state_after spec script (suc n)))) is_env

read_same : (spec : Parts) (script : ScriptParts) (n : ℕ) (reading : Reading) (row : Row) → reading ≡ reading_of spec (rows_below spec script n) → row ≡ row_at spec script n
    → read_row spec reading row.frame row.acts ≡ reading_of spec (rows_below spec script (suc n))
read_same spec script n reading row is is_row =
    rw (is, is_row, (row_by_row spec (rows_below spec script n) (row_at spec script n)).0, length_listed (row_at spec script) n) refl

reports_same : (spec : Parts) (script : ScriptParts) (n : ℕ) (reading : Reading) (reports : List Report) (row : Row) → reading ≡ reading_of spec (rows_below spec script n) → row ≡ row_at spec script n
    → reports ≡ ended spec (rows_below spec script n) → reports ++ as_list (report_of spec reading row.frame row.acts) ≡ ended spec (rows_below spec script (suc n))
reports_same spec script n reading reports row is is_row is_reports =
    rw (is, is_row, is_reports, (row_by_row spec (rows_below spec script n) (row_at spec script n)).1, length_listed (row_at spec script) n) refl

module _ {spec : Parts} {script : ScriptParts} {n : ℕ} {image : KernelImage} {areas : List (List ℤ)} {reading : Reading} {rows : List Row} {reports : List Report} {marks : List ℕ} {images : List (List ℤ)}
    {v : Env} {row : Row} {keepers : List (Option ProcId)} {next : KernelImage} (s : HoldsFlight spec script n image areas reading rows reports)
    (t : Ticks spec script n image areas marks images v row keepers next) where
  row_told : row ≡ row_at spec script n
  row_told =
      t.row_is ∙ ap (λ i. row_drawn spec i marks images areas) s.image_is ∙ ap (row_drawn spec (kernel_image spec script n) marks images) s.areas_are
      ∙ row_is spec t.facts script n marks images t.marks_are t.images_are

  keepers_told : keepers ≡ (state_after spec script (suc n)).keepers
  keepers_told = t.keepers_are ∙ ap (λ i. keepers_drawn spec i marks) s.image_is ∙ keepers_are spec t.facts script n marks t.marks_are

  pub next_told : next ≡ kernel_image spec script (suc n)
  next_told = t.next_is ∙ image_left spec script n row keepers v row_told keepers_told t.env_is

  pub stands_more : HoldsFlight spec script (suc n) next row.areas (read_row spec reading row.frame row.acts) (rows ++ row ∷ []) (reports ++ as_list (report_of spec reading row.frame row.acts))
  stands_more = record {
    image_is = next_told;
    areas_are = ap (λ (r : Row). r.areas) row_told;
    rows_are = rw (s.rows_are, row_told) refl;
    reading_is = read_same spec script n reading row s.reading_is row_told;
    reports_are = reports_same spec script n reading reports row s.reading_is row_told s.reports_are;
  }

pub kernel_more : {spec : Parts} {script : ScriptParts} {walk : Walk} {image : KernelImage} {areas : List (List ℤ)} {reading : Reading} {rows : List Row} {reports : List Report} {marks : List ℕ} {images : List (List ℤ)} {v : Env} {row : Row} {keepers : List (Option ProcId)} {next : KernelImage} {rows_room reports_room rows_count reports_count : ℕ}
    → KernelKeeps spec script walk image areas reading rows reports rows_room reports_room rows_count reports_count → image.frame < script.frames
    → Ticks spec script image.frame image areas marks images v row keepers next
    → (walk_after : Walk) → IsWalk spec script (walk.frame + 1) walk_after → (read : Reading) (rows_after : List Row) (reports_after : List Report) (rows_room_after reports_room_after rows_count_after reports_count_after : ℕ)
    → read ≡ read_row spec reading row.frame row.acts → rows_after ≡ rows ++ row ∷ [] → reports_after ≡ reports ++ as_list (report_of spec reading row.frame row.acts)
    → rows_room_after ≡ rows_room → reports_room_after ≡ reports_room → rows_count_after ≡ rows_count + 1 → reports_count_after ≤ reports_count + 1
    → KernelKeeps spec script walk_after next row.areas read rows_after reports_after rows_room_after reports_room_after rows_count_after reports_count_after
kernel_more {spec} {script} {walk} {image} {reading = reading} {rows} {reports} {row = row} {next = next} k low t walk_after walked read rows_after reports_after rra rpa rca pca is_read is_rows is_reports is_rra is_rpa is_rca is_pca =
    let at : next.frame ≡ suc image.frame = ap (λ (i : KernelImage). i.frame) (next_told k.stands t) in
    record {
      facts = k.facts;
      fits = k.fits;
      walk_is = subst (λ f. IsWalk spec script f walk_after) (sym walked.frame) walked;
      walk_at = walked.frame ∙ ap (λ f. f + 1) k.walk_at ∙ omega (arith, at);
      stands = rw (is_read, is_rows, is_reports)
          (subst (λ m. HoldsFlight spec script m next row.areas (read_row spec reading row.frame row.acts) (rows ++ row ∷ []) (reports ++ as_list (report_of spec reading row.frame row.acts))) (sym at) (stands_more k.stands t));
      room = rw at (record {
        within = omega arith;
        rows_fit = omega (arith, k.room.rows_fit, is_rra);
        reports_fit = omega (arith, k.room.reports_fit, is_rpa);
        rows_told = omega (arith, k.room.rows_told, is_rca);
        reports_few = omega (arith, k.room.reports_few, is_pca);
      });
    }

pub ticks_by : (k : KernelParts) (spec : Parts) (script : ScriptParts) (walk : Walk) (image : KernelImage) (areas : List (List ℤ)) (marks : List ℕ) (images : List (List ℤ)) (v : Env)
    (row : Row) (keepers : List (Option ProcId)) (next : KernelImage) → kernel_after spec script image.frame ≡ k → IsSpec spec → walk.frame ≡ image.frame
    → AreMarks k.spec k.script (k.past + 1) marks → AreImages k.spec k.script (k.past + 1) images → v ≡ env_at spec script (walk.frame + 1)
    → row ≡ row_drawn spec image marks images areas → keepers ≡ keepers_drawn spec image marks → next ≡ image_next spec row keepers v
    → Ticks spec script image.frame image areas marks images v row keepers next
ticks_by k spec script walk image areas marks images v row keepers next is facts at are_marks are_images is_env is_row is_keepers is_next =
    let e : image.frame + 1 ≡ suc image.frame = omega arith in
    let walked : walk.frame + 1 ≡ suc image.frame = omega (arith, at) in
    record {
      facts = facts;
      marks_are = subst (λ n. AreMarks spec script n marks) e (subst (λ (k : KernelParts). AreMarks k.spec k.script (k.past + 1) marks) (sym is) are_marks);
      images_are = subst (λ n. AreImages spec script n images) e (subst (λ (k : KernelParts). AreImages k.spec k.script (k.past + 1) images) (sym is) are_images);
      env_is = is_env ∙ ap (env_at spec script) walked;
      row_is = is_row;
      keepers_are = is_keepers;
      next_is = is_next;
    }

pub image_by : (k : KernelParts) (spec : Parts) (script : ScriptParts) (n : ℕ) (next : KernelImage) → kernel_after spec script n ≡ k → next ≡ kernel_image spec script (suc n)
    → next ≡ kernel_image k.spec k.script (k.past + 1)
image_by k spec script n next is is_next =
    let e : suc n ≡ n + 1 = omega arith in
    subst (λ (k : KernelParts). next ≡ kernel_image k.spec k.script (k.past + 1)) is (subst (λ m. next ≡ kernel_image spec script m) e is_next)
