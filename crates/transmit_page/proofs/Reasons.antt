-- Each write has a reason, and is written where it may be.
use Rattle.std.proofs.Common.{◌≡◌, true, false, List, refl, sym, subst, true≢false, inl, inr}
use Rattle.std.specs.Prelude.{◌||◌}
use Rattle.transmit_page.specs.declared.words.RingWords.{RingWords}
use Rattle.transmit_page.specs.declared.words.TransmitRegister.{TransmitRegister}
use Rattle.transmit_page.specs.declared.words.TransmitRegister.TheVariants.{BaseLow, BaseHigh, Length, Head, WriteBackLow, WriteBackHigh, Control, Tail}
use Rattle.transmit_page.specs.declared.changes.TransmitWrite.{TransmitWrite}
use Rattle.transmit_page.specs.Words.{is_on}
use Rattle.transmit_page.specs.Changes.{written, changes, has_changed, has_other_ring, goes_off, comes_on}
use Rattle.transmit_page.specs.Laws.{IsAmong, IsItsWord, has_reason, is_of_ring}
use Rattle.transmit_page.proofs.Parts.{Along, along_at, or_first, or_second}
use Rattle.transmit_page.proofs.Sections.{along_changes}

-- ---- a reason

changed_has : (r : TransmitRegister) (was now : RingWords) → has_changed r was now ≡ true → has_reason r was now ≡ true
changed_has BaseLow was now is = is
changed_has BaseHigh was now is = is
changed_has Length was now is = is
changed_has Head was now is = is
changed_has WriteBackLow was now is = is
changed_has WriteBackHigh was now is = is
changed_has Control was now is = or_first (has_changed Control was now) (goes_off was now || comes_on was now) is
changed_has Tail was now is = or_first (has_changed Tail was now) (comes_on was now) is

abbrev HasReason : RingWords → RingWords → RingWords → TransmitWrite → Type 0
HasReason was now words w = has_reason w.register was now ≡ true

pub reason_at : (was now : RingWords) (before behind : List TransmitWrite) (w : TransmitWrite) → IsAmong was now before w behind → has_reason w.register was now ≡ true
reason_at was now before behind w is = along_at (HasReason was now) was before w behind (subst (Along (HasReason was now) was) is each)
  where
    each : Along (HasReason was now) was (changes was now)
    each =
        along_changes (HasReason was now) was now
        (λ off. or_second (has_changed Control was now) (goes_off was now || comes_on was now) (or_first (goes_off was now) (comes_on was now) off))
        (λ r words other ring changed. changed_has r was now changed)
        (λ words on. or_second (has_changed Tail was now) (comes_on was now) on)
        (λ words on. or_second (has_changed Control was now) (goes_off was now || comes_on was now) (or_second (goes_off was now) (comes_on was now) on))
        (λ words changed. changed_has Control was now changed)
        (λ words changed. changed_has Tail was now changed)

-- ---- a word

abbrev HasItsWord : RingWords → RingWords → RingWords → TransmitWrite → Type 0
HasItsWord was now words w = IsItsWord was now w

pub value_at : (was now : RingWords) (before behind : List TransmitWrite) (w : TransmitWrite) → IsAmong was now before w behind → IsItsWord was now w
value_at was now before behind w is = along_at (HasItsWord was now) was before w behind (subst (Along (HasItsWord was now) was) is each)
  where
    each : Along (HasItsWord was now) was (changes was now)
    each =
        along_changes (HasItsWord was now) was now
        (λ off. inr (off, refl, refl))
        (λ r words other ring changed. inl refl)
        (λ words on. inl refl)
        (λ words on. inl refl)
        (λ words changed. inl refl)
        (λ words changed. inl refl)

-- ---- a ring is set while its queue is off

ring_has : (r : TransmitRegister) (was now : RingWords) → is_of_ring r ≡ true → has_changed r was now ≡ true → has_other_ring was now ≡ true
ring_has BaseLow was now of_ring is = or_first _ _ is
ring_has BaseHigh was now of_ring is = or_second (has_changed BaseLow was now) _ (or_first _ _ is)
ring_has Length was now of_ring is = or_second (has_changed BaseLow was now) _ (or_second (has_changed BaseHigh was now) _ (or_first _ _ is))
ring_has Head was now of_ring is = or_second (has_changed BaseLow was now) _ (or_second (has_changed BaseHigh was now) _ (or_second (has_changed Length was now) _ is))
ring_has WriteBackLow was now of_ring is = absurd (true≢false (sym of_ring))
ring_has WriteBackHigh was now of_ring is = absurd (true≢false (sym of_ring))
ring_has Control was now of_ring is = absurd (true≢false (sym of_ring))
ring_has Tail was now of_ring is = absurd (true≢false (sym of_ring))

abbrev IsSetOff : RingWords → TransmitWrite → Type 0
IsSetOff words w = is_of_ring w.register ≡ true → is_on words ≡ false

pub off_at : (was now : RingWords) (before behind : List TransmitWrite) (w : TransmitWrite) → IsAmong was now before w behind → is_of_ring w.register ≡ true → is_on (written was before) ≡ false
off_at was now before behind w is = along_at IsSetOff was before w behind (subst (Along IsSetOff was) is each)
  where
    each : Along IsSetOff was (changes was now)
    each =
        along_changes IsSetOff was now
        (λ off of_ring. absurd (true≢false (sym of_ring)))
        (λ r words other ring changed of_ring. ring (ring_has r was now of_ring changed))
        (λ words on of_ring. absurd (true≢false (sym of_ring)))
        (λ words on of_ring. absurd (true≢false (sym of_ring)))
        (λ words changed of_ring. absurd (true≢false (sym of_ring)))
        (λ words changed of_ring. absurd (true≢false (sym of_ring)))
