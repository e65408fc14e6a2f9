-- Which words of a queue go back into the page as its registers read, where its client has not written others meanwhile.
use Rattle.std.specs.Prelude.{Bool, false}
use Rattle.transmit_page.specs.declared.words.RingWords.{RingWords}
use Rattle.transmit_page.specs.declared.words.TransmitRegister.{TransmitRegister}
use Rattle.transmit_page.specs.declared.words.TransmitRegister.TheVariants.{Head, Control, Tail}
use Rattle.transmit_page.specs.Words.{is_on}
use Rattle.transmit_page.specs.Changes.{has_changed}

-- after the changes of a queue were said: each that has changed, since a register need not read as it was written; but a tail does
abbrev pub is_put_back : TransmitRegister → RingWords → RingWords → Bool
is_put_back Tail was now = false
is_put_back r was now = has_changed r was now

-- after a service: a queue that is on has taken descriptors, and may have gone off
abbrev pub may_service_change : TransmitRegister → RingWords → Bool
may_service_change Head words = is_on words
may_service_change Control words = is_on words
may_service_change r words = false
