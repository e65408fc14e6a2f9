-- Texts that come to a writer one after another.
use Rattle.std.proofs.Common.{◌≡◌, ℕ, List, [], ◌++◌, append_assoc, append-nil, take, drop, take-append-drop, length, length-drop, ◌-◌, refl, sym, ap, ◌∙◌, subst, arith}
use Rattle.std.proofs.lemmas.List.{take_all}
use Rattle.std.proofs.KnownBytes.{Appends-nil, Appends-trans}
use Rattle.std.specs.Prelude.{Option, Result, Ok, Err, OnOk, OnErr}
use Rattle.std.specs.Io.KnownBytes.{Appends}
use Rattle.transcript.specs.Known.{Sent, Began}

-- ---- what is known of a writer

pub sent_none : (a : Option (List ℕ)) (held : List ℕ) → Sent a a held held
sent_none a held = ([], refl, Appends-nil a)

pub sent_all : (a b : Option (List ℕ)) (text held : List ℕ) → Appends a b text → held ≡ [] → Sent a b text held
sent_all a b text held p none = (text, ap (λ (xs : List ℕ). text ++ xs) none ∙ append-nil text, p)

-- of a whole a front was sent, and what is held and what is to come are the rest; then of what is held a front is sent
pub sent_on : (a b c : Option (List ℕ)) (whole held left more : List ℕ) → Sent a b whole (held ++ more) → Sent b c held left → Sent a c whole (left ++ more)
sent_on a b c whole held left more (f, e, p) (g, d, q) = (
  f ++ g,
  append_assoc f g (left ++ more)
      ∙ ap (λ (xs : List ℕ). f ++ xs) (sym (append_assoc g left more) ∙ ap (λ (xs : List ℕ). xs ++ more) d) ∙ e,
  Appends-trans a b c f g p q,
)

pub began_none : (a : Option (List ℕ)) (text : List ℕ) → Began a a text
began_none a text = (text, sent_none a text)

pub began_all : (a b : Option (List ℕ)) (text : List ℕ) → Appends a b text → Began a b text
began_all a b text p = ([], sent_all a b text [] p refl)

pub began_cut : (a b : Option (List ℕ)) (n : ℕ) (text : List ℕ) → Appends a b (take n text) → Began a b text
began_cut a b n text p = (drop n text, (take n text, take-append-drop n text, p))

-- of what is held a beginning is sent
pub began_on : (a b c : Option (List ℕ)) (whole held more : List ℕ) → Sent a b whole (held ++ more) → Began b c held → Began a c whole
began_on a b c whole held more s (left, t) = (left ++ more, sent_on a b c whole held left more s t)

-- ---- texts of a list, one after another: what was sent, what is held and the texts that are left are the whole

-- the texts that are left begin with one that is held now
pub sent_next : (a b c : Option (List ℕ)) (whole held all here rest left : List ℕ) → all ≡ here ++ rest
    → Sent a b whole (held ++ all) → Sent b c (held ++ here) left → Sent a c whole (left ++ rest)
sent_next a b c whole held all here rest left is before more =
    let P : List ℕ → Type 0 = λ text. Sent a b whole text in
    sent_on a b c whole (held ++ here) left rest (subst P (ap (λ (t : List ℕ). held ++ t) is ∙ sym (append_assoc held here rest)) before) more

pub began_next : (a b c : Option (List ℕ)) (whole held all here rest : List ℕ) → all ≡ here ++ rest
    → Sent a b whole (held ++ all) → Began b c (held ++ here) → Began a c whole
began_next a b c whole held all here rest is before began =
    let P : List ℕ → Type 0 = λ text. Sent a b whole text in
    began_on a b c whole (held ++ here) rest (subst P (ap (λ (t : List ℕ). held ++ t) is ∙ sym (append_assoc held here rest)) before) began

-- and its front is held too
pub sent_more : (a b c : Option (List ℕ)) (whole held left all part rest new : List ℕ) → all ≡ part ++ rest → new ≡ left ++ part
    → Sent a b whole (held ++ all) → Sent b c held left → Sent a c whole (new ++ rest)
sent_more a b c whole held left all part rest new is grown before sent =
    let P : List ℕ → Type 0 = λ text. Sent a c whole text in
    subst P (ap (λ (t : List ℕ). left ++ t) is ∙ sym (append_assoc left part rest) ∙ ap (λ (t : List ℕ). t ++ rest) (sym grown))
    (sent_on a b c whole held left all before sent)

-- no text is left
pub sent_last : (a b : Option (List ℕ)) (whole held left : List ℕ) → left ≡ [] → Sent a b whole (held ++ left) → Sent a b whole held
sent_last a b whole held left none sent =
    let P : List ℕ → Type 0 = λ text. Sent a b whole text in
    subst P (ap (λ (t : List ℕ). held ++ t) none ∙ append-nil held) sent

-- nothing came between
pub sent_still : (a b : Option (List ℕ)) (whole held all here rest : List ℕ) → all ≡ here ++ rest → here ≡ []
    → Sent a b whole (held ++ all) → Sent a b whole (held ++ rest)
sent_still a b whole held all here rest is none sent =
    let P : List ℕ → Type 0 = λ text. Sent a b whole text in
    subst P (ap (λ (t : List ℕ). held ++ t) (is ∙ ap (λ (t : List ℕ). t ++ rest) none)) sent

-- ---- one text after another

pub sent_then : (a b c : Option (List ℕ)) (text held more left : List ℕ) → Sent a b text held → Sent b c (held ++ more) left → Sent a c (text ++ more) left
sent_then a b c text held more left (f, e, p) (g, d, q) = (
  f ++ g,
  append_assoc f g left ∙ ap (λ (xs : List ℕ). f ++ xs) d ∙ sym (append_assoc f held more) ∙ ap (λ (xs : List ℕ). xs ++ more) e,
  Appends-trans a b c f g p q,
)

pub began_then : (a b c : Option (List ℕ)) (text held more : List ℕ) → Sent a b text held → Began b c (held ++ more) → Began a c (text ++ more)
began_then a b c text held more s (left, t) = (left, sent_then a b c text held more left s t)

pub began_more : (a b : Option (List ℕ)) (text more : List ℕ) → Began a b text → Began a b (text ++ more)
began_more a b text more (rest, (f, e, p)) = (rest ++ more, (f, sym (append_assoc f rest more) ∙ ap (λ (xs : List ℕ). xs ++ more) e, p))

-- three texts one after another
pub sent_thrice : (a b c d : Option (List ℕ)) (held x y z one two left : List ℕ)
    → Sent a b (held ++ x) one → Sent b c (one ++ y) two → Sent c d (two ++ z) left → Sent a d (held ++ (x ++ (y ++ z))) left
sent_thrice a b c d held x y z one two left p q r =
    let P : List ℕ → Type 0 = λ text. Sent a d text left in
    subst P (append_assoc (held ++ x) y z ∙ append_assoc held x (y ++ z)) (sent_then a c d ((held ++ x) ++ y) two z left (sent_then a b c (held ++ x) one y two p q) r)

pub began_second : (a b c : Option (List ℕ)) (held x y z one : List ℕ) → Sent a b (held ++ x) one → Began b c (one ++ y) → Began a c (held ++ (x ++ (y ++ z)))
began_second a b c held x y z one p q =
    let P : List ℕ → Type 0 = λ text. Began a c text in
    subst P (append_assoc (held ++ x) y z ∙ append_assoc held x (y ++ z)) (began_more a c ((held ++ x) ++ y) z (began_then a b c (held ++ x) one y p q))

pub began_third : (a b c d : Option (List ℕ)) (held x y z one two : List ℕ)
    → Sent a b (held ++ x) one → Sent b c (one ++ y) two → Began c d (two ++ z) → Began a d (held ++ (x ++ (y ++ z)))
began_third a b c d held x y z one two p q r =
    let P : List ℕ → Type 0 = λ text. Began a d text in
    subst P (append_assoc (held ++ x) y z ∙ append_assoc held x (y ++ z)) (began_then a c d ((held ++ x) ++ y) two z (sent_then a b c (held ++ x) one y two p q) r)

pub began_first : (a b : Option (List ℕ)) (held x more : List ℕ) → Began a b (held ++ x) → Began a b (held ++ (x ++ more))
began_first a b held x more p = let P : List ℕ → Type 0 = λ text. Began a b text in subst P (append_assoc held x more) (began_more a b (held ++ x) more p)

-- the end of a text: what is held is sent
pub sent_end : (a b c : Option (List ℕ)) (text held : List ℕ) → Sent a b text held → Appends b c held → Appends a c text
sent_end a b c text held (f, e, p) q = let P : List ℕ → Type 0 = λ t. Appends a c t in subst P e (Appends-trans a b c f held p q)

pub began_end : (a b c : Option (List ℕ)) (text held : List ℕ) → Sent a b text held → Began b c held → Began a c text
began_end a b c text held (f, e, p) (rest, (g, d, q)) = (
  rest,
  (
    f ++ g,
    append_assoc f g rest ∙ ap (λ (xs : List ℕ). f ++ xs) d ∙ e,
    Appends-trans a b c f g p q,
  ),
)

-- ---- for the calls

pub slice_end : (text : List ℕ) (s : ℕ) → take (length text - s) (drop s text) ≡ drop s text
slice_end text s =
    let len = length-drop s text in
    take_all (length text - s) (drop s text) (omega arith)

pub on_err : {T E P : Type 0} (r : Result T E) → P → OnErr r P
on_err (Ok v) p = tt
on_err (Err e) p = p

pub ok_then : {T E P Q : Type 0} (r : Result T E) → OnOk r P → (P → Q) → OnOk r Q
ok_then (Ok v) p f = f p
ok_then (Err e) p f = tt

pub err_then : {T E P Q : Type 0} (r : Result T E) → OnErr r P → (P → Q) → OnErr r Q
err_then (Ok v) p f = tt
err_then (Err e) p f = f p

-- nothing was written so far
pub nothing_began : {T E : Type 0} (r : Result T E) (a : Option (List ℕ)) (text : List ℕ) → OnErr r (Began a a text)
nothing_began r a text = on_err r (began_none a text)
