-- The text of each line that the program writes.
use Rattle.std.specs.Prelude.{ℕ, suc, Bool, true, false, List, [], ◌∷◌, ◌++◌, ◌==◌, codes, decimal, if◌then◌else◌}
use Rattle.std.specs.Int.{to_be_bytes, w32}
use Rattle.hex.specs.Hex.{encode_lower}
use Rattle.device.specs.Replies.{Reply}
use Rattle.device.specs.declared.event.Reply.TheVariants.{Done, Value, Bytes, Idle, More, Sent, Dropped, Faulted, Refused}
use Rattle.device.specs.declared.event.Answer.{Answer}
use Rattle.device.specs.Lone.{Item, OwnEvent, NewSettings, Gone, Offer, Observation, Replied, Interrupted}

-- the digits of bytes, or a stroke where there are none
abbrev pub digits_or_none : List ℕ → List ℕ
digits_or_none [] = codes "-"
digits_or_none (b ∷ bs) = encode_lower (b ∷ bs)

-- the words of a reply, each after a space
unfoldable pub reply_text : Reply → List ℕ
reply_text Done = codes " ok"
reply_text (Value x) = codes " = 0x" ++ encode_lower (to_be_bytes w32 x)
reply_text (Bytes bytes) = codes " bytes " ++ digits_or_none bytes
reply_text Idle = codes " idle"
reply_text More = codes " more"
reply_text Sent = codes " sent"
reply_text Dropped = codes " dropped"
reply_text Faulted = codes " faulted"
reply_text (Refused n) = codes " refused " ++ decimal n

-- the mark of a pool, by the set of the vectors that it got; none where that is empty
unfoldable pub mark_text : ℕ → ℕ → List ℕ
mark_text pool mask = if mask == 0 then [] else codes " !" ++ (decimal pool ++ (codes ":" ++ decimal mask))

-- the marks of the pools from one on, by their sets
abbrev pub marks_text : ℕ → List ℕ → List ℕ
marks_text pool [] = []
marks_text pool (mask ∷ masks) = mark_text pool mask ++ marks_text (suc pool) masks

-- ---- lines

-- the line of an answer, with the number of its event: the reply, and a mark for each pool that messages were issued to
unfoldable pub line : ℕ → Answer → List ℕ
line n a = decimal n ++ (reply_text a.reply ++ (marks_text 0 a.raised ++ codes "\n"))

-- the line of a frame that went to the wire
unfoldable pub frame_line : List ℕ → List ℕ
frame_line frame = codes "out " ++ (encode_lower frame ++ codes "\n")

-- whether an offered frame came from another pool, as a digit
abbrev pub looped_text : Bool → List ℕ
looped_text true = codes "1 "
looped_text false = codes "0 "

abbrev pub item_text : Item → List ℕ
item_text (OwnEvent e) = codes " event"
item_text (NewSettings o) = codes " settings"
item_text Gone = codes " gone"
item_text (Offer frame looped) = codes " offer " ++ (looped_text looped ++ encode_lower frame)

-- the line of what an event leaves for a pool, with the number of the event
unfoldable pub item_line : ℕ → Item → List ℕ
item_line n k = decimal n ++ (item_text k ++ codes "\n")

abbrev pub seen_text : ℕ → Observation → List ℕ
seen_text pool (Replied reply messages) = reply_text reply ++ mark_text pool messages
seen_text pool (Interrupted messages) = mark_text pool messages

-- the line of what is seen of a pool's lone function, with the number of the event that it comes of
unfoldable pub seen_line : ℕ → ℕ → Observation → List ℕ
seen_line pool n o = decimal n ++ (seen_text pool o ++ codes "\n")
