-- The text of records: what one more record adds, and that it is one.
use Rattle.std.proofs.Common.{◌≡◌, ℕ, ◌+◌, List, [], ◌∷◌, ◌++◌, length, refl, sym, ap, ◌∙◌, arith, append_assoc, append-nil}
use Rattle.std.specs.List.{AllZip}
use Rattle.fg_io.specs.Prefix.{IsPrefix}
use Rattle.fg_flows.specs.Flows.{IsTable}
use Rattle.fg_trace.specs.Trace.{Record}
use Rattle.fg_inspect.specs.declared.reading.Reading.{Reading}
use Rattle.fg_inspect.specs.Laws.{OneReading, OneText, TextOfFront}
use Rattle.fg_inspect.specs.Reading.{IsReading}
use Rattle.fg_inspect.specs.Text.{line_of, lines_from, IsText}

abbrev AreRead : List ℕ → List Record → List Reading → Type 0
AreRead flows records readings = AllZip (λ r reading. IsReading flows r.port r.datagram reading) records readings

-- One more record

read_more : (flows : List ℕ) (records : List Record) (readings : List Reading) (r : Record) (x : Reading) → AreRead flows records readings → IsReading flows r.port r.datagram x → AreRead flows (records ++ r ∷ []) (readings ++ x ∷ [])
read_more flows [] [] r x h k = (k, tt)
read_more flows [] (y ∷ ys) r x h k = absurd h
read_more flows (s ∷ ss) [] r x h k = absurd h
read_more flows (s ∷ ss) (y ∷ ys) r x h k = (h.0, read_more flows ss ys r x h.1 k)

lines_more : (flows : List ℕ) (n : ℕ) (records : List Record) (readings : List Reading) (r : Record) (x : Reading) → AreRead flows records readings → lines_from n (records ++ r ∷ []) (readings ++ x ∷ []) ≡ lines_from n records readings ++ line_of (n + length records) r x
lines_more flows n [] [] r x h =
    let same : n ≡ n + 0 = omega arith in
    append-nil (line_of n r x) ∙ ap (λ k. line_of k r x) same
lines_more flows n [] (y ∷ ys) r x h = absurd h
lines_more flows n (s ∷ ss) [] r x h = absurd h
lines_more flows n (s ∷ ss) (y ∷ ys) r x h =
    let same : (n + 1) + length ss ≡ n + length (s ∷ ss) = omega arith in
    ap (λ t. line_of n s y ++ t) (lines_more flows (n + 1) ss ys r x h.1 ∙ ap (λ k. lines_from (n + 1) ss ys ++ line_of k r x) same)
    ∙ sym (append_assoc (line_of n s y) (lines_from (n + 1) ss ys) (line_of (n + length (s ∷ ss)) r x))

first_more : (flows : List ℕ) (records : List Record) (readings : List Reading) (r : Record) (x : Reading) → AreRead flows records readings → lines_from 0 (records ++ r ∷ []) (readings ++ x ∷ []) ≡ lines_from 0 records readings ++ line_of (length records) r x
first_more flows records readings r x h =
    let same : 0 + length records ≡ length records = omega arith in
    lines_more flows 0 records readings r x h ∙ ap (λ k. lines_from 0 records readings ++ line_of k r x) same

pub text_more : (flows : List ℕ) (records : List Record) (text : List ℕ) (r : Record) (x : Reading) → IsText flows records text → IsReading flows r.port r.datagram x → IsText flows (records ++ r ∷ []) (text ++ line_of (length records) r x)
text_more flows records text r x h k = record {
  readings = h.readings ++ x ∷ [];
  read = read_more flows records h.readings r x h.read k;
  lines = ap (λ t. t ++ line_of (length records) r x) h.lines ∙ sym (first_more flows records h.readings r x h.read);
}

pub no_text : (flows : List ℕ) → IsText flows [] []
no_text flows = record { readings = []; read = tt; lines = refl }

-- One text

lines_front : OneReading → (flows : List ℕ) → IsTable flows → (n : ℕ) (records later : List Record) (xs ys : List Reading) → AreRead flows records xs → AreRead flows (records ++ later) ys → IsPrefix (lines_from n records xs) (lines_from n (records ++ later) ys)
lines_front law flows table n [] later [] ys h k = (lines_from n later ys, refl)
lines_front law flows table n [] later (x ∷ xs) ys h k = absurd h
lines_front law flows table n (r ∷ rs) later [] ys h k = absurd h
lines_front law flows table n (r ∷ rs) later (x ∷ xs) [] h k = absurd k
lines_front law flows table n (r ∷ rs) later (x ∷ xs) (y ∷ ys) h k =
    let same : y ≡ x = law flows r.port r.datagram y x table k.0 h.0 in
    let rest = lines_front law flows table (n + 1) rs later xs ys h.1 k.1 in (
      rest.0,
      ap (λ t. line_of n r t ++ lines_from (n + 1) (rs ++ later) ys) same ∙ ap (λ t. line_of n r x ++ t) rest.1
          ∙ sym (append_assoc (line_of n r x) (lines_from (n + 1) rs xs) rest.0),
    )

pub text_of_front : OneReading → TextOfFront
text_of_front law flows records later front text table h k =
    let parts = lines_front law flows table 0 records later h.readings k.readings h.read k.read in
    (parts.0, k.lines ∙ parts.1 ∙ ap (λ t. t ++ parts.0) (sym h.lines))

lines_same : OneReading → (flows : List ℕ) → IsTable flows → (n : ℕ) (records : List Record) (xs ys : List Reading) → AreRead flows records xs → AreRead flows records ys → lines_from n records xs ≡ lines_from n records ys
lines_same law flows table n [] [] [] h k = refl
lines_same law flows table n [] [] (y ∷ ys) h k = absurd k
lines_same law flows table n [] (x ∷ xs) ys h k = absurd h
lines_same law flows table n (r ∷ rs) [] ys h k = absurd h
lines_same law flows table n (r ∷ rs) (x ∷ xs) [] h k = absurd k
lines_same law flows table n (r ∷ rs) (x ∷ xs) (y ∷ ys) h k =
    ap (λ t. line_of n r t ++ lines_from (n + 1) rs xs) (law flows r.port r.datagram x y table h.0 k.0)
    ∙ ap (λ t. line_of n r y ++ t) (lines_same law flows table (n + 1) rs xs ys h.1 k.1)

pub one_text : OneReading → OneText
one_text law flows records one other table h k =
    h.lines ∙ lines_same law flows table 0 records h.readings k.readings h.read k.read ∙ sym k.lines
