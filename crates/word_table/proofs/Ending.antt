-- The marks and images that are read off a closed table are those that the processors have committed up to their
-- places.
use Rattle.std.proofs.Common.{◌≡◌, ℕ, zero, suc, ℤ, ◌+◌, ◌*◌, ◌%◌, ◌<◌, refl, sym, ap, subst, ◌∙◌, arith, List, [], ◌∷◌, map, length}
use Rattle.std.specs.Prelude.{Option, Some, slice_get, slice_index}
use Rattle.scram_types.specs.Specification.{IsSpec}
use Rattle.bank_words.specs.Numbers.{decode}
use Rattle.coverage_check.specs.Missions.{MissionParts}
use Rattle.fault_script.specs.Fits.{Fits}
use Rattle.fault_script.specs.Times.{words}
use Rattle.frame_model.specs.Flights.{image_after}
use Rattle.frame_model.specs.Storage.{mark_after}
use Rattle.atomic_table.specs.Table.{Final, Seen}
use Rattle.fail_stop.specs.Consistency.{IsConsistent, marked}
use Rattle.fail_stop.specs.Events.{Place, At, Halted, Places, BankWord, MarkWord}
use Rattle.fail_stop.specs.Flights.{Flight, commit_count, last_commit, mark_before, side, word_in}
use Rattle.fail_stop.specs.Kept.{Kept, is_flipped, mark_at}
use Rattle.fail_stop.specs.Listed.{index_of, stored_in}
use Rattle.fail_stop.specs.ScriptFlights.{image_words_after}
use Rattle.fail_stop.proofs.Facts.{choose_in, facts}
use Rattle.fail_stop.proofs.FrameFacts.{img_last, side_count, side_le}
use Rattle.fail_stop.proofs.ImagesFound.{image_found}
use Rattle.fail_stop.proofs.ScriptBorder.{images_same, marks_same, script_flies}
use Rattle.word_table.specs.declared.actors.Actor.TheVariants.{Kernel}
use Rattle.word_table.specs.declared.actors.View.{View}
use Rattle.word_table.specs.declared.seats.Seat.{Seat}
use Rattle.word_table.specs.Actors.{mission_flight}
use Rattle.word_table.specs.Closing.{AreLast}
use Rattle.word_table.specs.Rule.{Hosts, IsRuled}
use Rattle.word_table.specs.Tables.{actor_of, seat_place, proc_of}
use Rattle.word_table.proofs.Seating.{stand_of}

mark_marked : (m : Flight) (p : ℕ) (x : Place) → mark_at m p x ≡ mark_before m p (marked m x)
mark_marked m p (At f n) = choose_in m p f (is_flipped m n)
mark_marked m p (Halted h) = refl

module _ (mission : MissionParts) (is : IsSpec mission.spec) (fits : Fits mission.spec mission.script) (at : Places) (list : List ℕ) (kept : Kept (mission_flight mission) at (stored_in list)) (p : ℕ) (l : p < (mission_flight mission).procs) where
  abbrev m : Flight
  m = mission_flight mission

  abbrev g : ℕ
  g = marked m (at.proc p)

  mark_stands : stored_in list (MarkWord p) ≡ mark_before m p g
  mark_stands = kept.words_are (MarkWord p) l ∙ mark_marked m p (at.proc p)

  bank_is : stored_in list (MarkWord p) % 2 ≡ commit_count m p g % 2
  bank_is = let low = side_le m p g in let odd : (2 * last_commit m p g + side m p g) % 2 ≡ side m p g = omega (arith, low) in ap (λ n. n % 2) mark_stands ∙ odd ∙ side_count m p g

  bank_stands : (i : ℕ) → i < m.width → stored_in list (BankWord p (stored_in list (MarkWord p) % 2) i) ≡ word_in (image_words_after mission.spec mission.script p g) i
  bank_stands i low =
      let c : IsConsistent m at (stored_in list) = facts m at (stored_in list) (script_flies mission.spec mission.script fits) kept in
      ap (λ b. stored_in list (BankWord p b i)) bank_is ∙ c.marked_bank p i l low
      ∙ ap (λ (image : List ℕ). word_in image i) (sym (img_last m p g) ∙ images_same mission.spec mission.script fits p g)

  pub last_mark : (mark : ℕ) (image : List ℤ) → AreLast list (words mission.spec) p mark image → mark ≡ mark_after mission.spec mission.script p g
  last_mark mark image last = last.mark_is ∙ mark_stands ∙ marks_same mission.spec mission.script fits p g

  pub last_image : (mark : ℕ) (image : List ℤ) → AreLast list (words mission.spec) p mark image → image ≡ image_after mission.spec mission.script p g
  last_image mark image last =
      image_found mission.spec is mission.script g p image last.image_is.long
      (λ i low. last.image_is.words i low ∙ ap decode (ap (slice_index list) (place i) ∙ bank_stands i low))
      (λ i under past. last.image_is.past i past)
    where
      place : (i : ℕ) → index_of (BankWord p (mark % 2) 0) + i ≡ index_of (BankWord p (stored_in list (MarkWord p) % 2) i)
      place i = ap (λ n. index_of (BankWord p (n % 2) 0) + i) last.mark_is ∙ omega arith

seat_stands : (at : Places) (home : Option ℕ → ℕ) (id : ℕ) (seats : List Seat) → Hosts at home id (map actor_of seats) → (p : ℕ) (seat : Seat) → slice_get seats p ≡ Some seat → at.proc (proc_of seat) ≡ seat_place seat
seat_stands at home id [] h p seat there = absurd (let e = there in cc)
seat_stands at home id (x ∷ seats) h zero seat there = let same : x ≡ seat = cc in subst (λ (s : Seat). at.proc (proc_of s) ≡ seat_place s) same (stand_of at (proc_of x) (seat_place x) h.1)
seat_stands at home id (x ∷ seats) h (suc p) seat there = seat_stands at home id seats h.2 p seat there

module _ (mission : MissionParts) (is : IsSpec mission.spec) (fits : Fits mission.spec mission.script) (id k j : ℕ) (v : View) (seats : List Seat) (list : List ℕ) (slots : List (Unit {0}))
    (final : Final (Seen (IsRuled mission) id v) list slots) (actors : v.actors ≡ Kernel k j ∷ map actor_of seats) (p : ℕ) (seat : Seat) (there : slice_get seats p ≡ Some seat) (own : proc_of seat ≡ p)
    (l : p < length mission.spec.procs) (mark : ℕ) (image : List ℤ) (last : AreLast list (words mission.spec) p mark image) where
  stands : final.1.0.at.proc p ≡ seat_place seat
  stands =
      let hosted : Hosts final.1.0.at final.1.0.home id (Kernel k j ∷ map actor_of seats) = rw actors at (final.1.0.each id v final.1.1) in
      ap final.1.0.at.proc (sym own) ∙ seat_stands final.1.0.at final.1.0.home id seats hosted.2 p seat there

  kept : Kept (mission_flight mission) final.1.0.at (stored_in list)
  kept = subst (λ (words : List ℕ). Kept (mission_flight mission) final.1.0.at (stored_in words)) final.2 final.1.0.kept

  pub ended_mark : mark ≡ mark_after mission.spec mission.script p (marked (mission_flight mission) (seat_place seat))
  ended_mark = last_mark mission is fits final.1.0.at list kept p l mark image last ∙ ap (λ x. mark_after mission.spec mission.script p (marked (mission_flight mission) x)) stands

  pub ended_image : image ≡ image_after mission.spec mission.script p (marked (mission_flight mission) (seat_place seat))
  ended_image = last_image mission is fits final.1.0.at list kept p l mark image last ∙ ap (λ x. image_after mission.spec mission.script p (marked (mission_flight mission) x)) stands
