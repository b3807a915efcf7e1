-- The stored word is a word of the processor's draft.
use Rattle.std.proofs.Common.{◌≡◌, ◌∙◌, ℕ, ℤ, pos, ap, sym}
use Rattle.std.specs.Prelude.{slice_index_or}
use Rattle.bank_words.specs.Numbers.{encode}
use Rattle.coverage_check.specs.Missions.{MissionParts}
use Rattle.fail_stop.proofs.OpeningLists.{encoded_at}
use Rattle.fail_stop.specs.declared.snapshots.Draft.{Draft}
use Rattle.frame_model.specs.Flights.{draft}
use Rattle.lock_deck.specs.SharedCores.{IsDraftOf, IsDraftWord}

-- The word of a draft is the word that its processor stores.
pub draft_word : (mission : MissionParts) (p f i word : ℕ) (x : ℤ) (made : Draft) → IsDraftOf mission p made → made.frame ≡ f → x ≡ slice_index_or made.image i (pos 0) → word ≡ encode x → IsDraftWord mission p f i word
draft_word mission p f i word x made is here at w =
    w ∙ ap encode (at ∙ ap (λ image. slice_index_or image i (pos 0)) (is ∙ ap (draft mission.spec mission.script p) here)) ∙ sym (encoded_at (draft mission.spec mission.script p f) i)
