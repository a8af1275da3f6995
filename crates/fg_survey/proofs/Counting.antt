-- Counts of what was heard.
use Rattle.std.proofs.Common.{◌≡◌, ◌≢◌, ⊎_elim, ℕ, suc, ◌+◌, ◌*◌, ◌<◌, ◌≤◌, ◌^◌, Bool, true, false, cond, eqb, ltb, List, [], ◌∷◌, length, get_or, set, reverse, replicate, refl, sym, ap, ◌∙◌, subst, arith}
use Rattle.std.specs.List.{AllByRecursion, AllZip, sum_by}
use Rattle.std.proofs.Math.Dec.{eqb-suc-zero}
use Rattle.std.proofs.lemmas.Bool.{cases_Bool, cases_eq, ne_eqb}
use Rattle.std.proofs.lemmas.Bool.Decides.{eqb_tells}
use Rattle.std.proofs.lemmas.List.{get_or-replicate, get_or-set_same, get_or-set_other, length-replicate, length-reverse, length-set}
use Rattle.std.proofs.lemmas.List.Sums.{count_by-le-length, length-filter, sum_by-cons}
use Rattle.fg_trace.specs.Trace.{Record}
use Rattle.fg_survey.specs.declared.rows.Row.{Row}
use Rattle.fg_survey.specs.declared.totals.Totals.{Totals}
use Rattle.fg_survey.specs.Heard.{Heard, IsHeard, AreHeard, is_media, is_parity, on_port}
use Rattle.fg_survey.specs.Rows.{ports, row, row_of}
use Rattle.fg_survey.specs.Steps.{ArePorts, RowHasRoom, TotalsHaveRoom}
use Rattle.fg_survey.specs.Totals.{backward, first_time, greatest_time, size, totals_of}

pub all_ports : ports ≡ 65536
unfolding ports
all_ports = refl

-- sums

pub bytes_bound : (heard : List Heard) → AllByRecursion (λ x. size x < 2 ^ 16) heard → sum_by size heard ≤ 65536 * length heard
bytes_bound [] h = omega arith
bytes_bound (x ∷ heard) h =
    let one : size x < 2 ^ 16 = h.0 in
    let rest = bytes_bound heard h.1 in
    let sum = sum_by-cons size x heard in
    omega (arith, one, rest, sum)

backward_bound : (heard : List Heard) → backward heard ≤ length heard
backward_bound [] = omega arith
backward_bound (x ∷ heard) =
    let rest = backward_bound heard in
    ⊎_elim
    (λ (yes : ltb x.time (greatest_time heard) ≡ true). let one : cond (ltb x.time (greatest_time heard)) 1 0 ≡ 1 = ap (λ b. cond {A = ℕ} b 1 0) yes in omega (arith, rest, one))
    (λ (no : ltb x.time (greatest_time heard) ≡ false). let none : cond (ltb x.time (greatest_time heard)) 1 0 ≡ 0 = ap (λ b. cond {A = ℕ} b 1 0) no in omega (arith, rest, none))
    (cases_Bool (ltb x.time (greatest_time heard)))

pub totals_have_room : (totals : Totals) (heard : List Heard) → totals ≡ totals_of heard → AllByRecursion (λ x. size x < 2 ^ 16) heard → length heard < 2 ^ 40 → TotalsHaveRoom totals
totals_have_room totals heard is sizes few =
    let bytes = bytes_bound heard sizes in
    let backward = backward_bound heard in
    subst TotalsHaveRoom (sym is) (omega (arith, few), omega (arith, bytes, few), omega (arith, backward, few))

-- the rows

filtered : (b : Bool) (n m k l : ℕ) → m ≡ n + k → k ≤ l → cond b m k ≤ n + l
filtered true n m k l is less = omega (arith, is, less)
filtered false n m k l is less = omega (arith, less)

choice : (b : Bool) (x : Heard) (xs ys : List Heard) → sum_by size (cond b (x ∷ xs) ys) ≡ cond b (sum_by size (x ∷ xs)) (sum_by size ys)
choice true x xs ys = refl
choice false x xs ys = refl

fewer_bytes : (port : ℕ) (heard : List Heard) → sum_by size (on_port port heard) ≤ sum_by size heard
fewer_bytes port [] = omega arith
fewer_bytes port (x ∷ heard) =
    let rest = fewer_bytes port heard in
    let same = choice (eqb x.port port) x (on_port port heard) (on_port port heard) in
    let own = sum_by-cons size x (on_port port heard) in
    let all = sum_by-cons size x heard in
    let less = filtered (eqb x.port port) (size x) (sum_by size (x ∷ on_port port heard)) (sum_by size (on_port port heard)) (sum_by size heard) own rest in
    omega (arith, same, all, less)

pub row_has_room : (r : Row) (port : ℕ) (heard : List Heard) → r ≡ row_of heard port → length heard < 2 ^ 40 → sum_by size heard < 2 ^ 58 → RowHasRoom r
row_has_room r port heard is few bytes =
    let own = length-filter (λ (x : Heard). eqb x.port port) heard in
    let many = count_by-le-length (λ (x : Heard). eqb x.port port) heard in
    let fewer = fewer_bytes port heard in
    let media = count_by-le-length is_media (on_port port heard) in
    let parity = count_by-le-length is_parity (on_port port heard) in
    subst RowHasRoom (sym is)
    (omega (arith, own, many, few), omega (arith, fewer, bytes), omega (arith, own, many, few, media), omega (arith, own, many, few, parity))

first_later : (x : Heard) (before : List Heard) → first_time (x ∷ before) ≡ cond (eqb (length before) 0) x.time (first_time before)
first_later x [] = refl
first_later x (y ∷ before) = ap (λ b. cond b x.time (first_time (y ∷ before))) (sym (eqb-suc-zero (length before)))

same_row : (a b : Row) → a.records ≡ b.records → a.bytes ≡ b.bytes → a.media ≡ b.media → a.parity ≡ b.parity → a.first ≡ b.first → a.last ≡ b.last → a ≡ b
same_row a b records bytes media parity first last =
    ap (λ n. record a { records = n }) records
    ∙ ap (λ n. record a { records = b.records; bytes = n }) bytes
    ∙ ap (λ n. record a { records = b.records; bytes = b.bytes; media = n }) media
    ∙ ap (λ n. record b { parity = n; first = a.first; last = a.last }) parity
    ∙ ap (λ n. record b { first = n; last = a.last }) first
    ∙ ap (λ n. record b { last = n }) last

pub row_more : (a b : Row) (before : List Heard) (x : Heard) → a ≡ row before
    → b.records ≡ a.records + 1 → b.bytes ≡ a.bytes + size x → b.media ≡ a.media + cond (is_media x) 1 0 → b.parity ≡ a.parity + cond (is_parity x) 1 0
    → b.first ≡ cond (eqb a.records 0) x.time a.first → b.last ≡ x.time → b ≡ row (x ∷ before)
row_more a b before x is records bytes media parity first last = same_row b (row (x ∷ before))
    (let was = ap (λ (r : Row). r.records) is in omega (arith, records, was))
    (let was = ap (λ (r : Row). r.bytes) is in let sum = sum_by-cons size x before in omega (arith, bytes, was, sum))
    (let was = ap (λ (r : Row). r.media) is in let sum = sum_by-cons (λ (y : Heard). cond (is_media y) 1 0) x before in omega (arith, media, was, sum))
    (let was = ap (λ (r : Row). r.parity) is in let sum = sum_by-cons (λ (y : Heard). cond (is_parity y) 1 0) x before in omega (arith, parity, was, sum))
    (first ∙ ap (λ (r : Row). cond (eqb r.records 0) x.time r.first) is ∙ sym (first_later x before))
    last

-- all rows

on_it : (port : ℕ) (x : Heard) (before : List Heard) → x.port ≡ port → on_port port (x ∷ before) ≡ x ∷ on_port port before
on_it port x before same = ⊎_elim
    (λ (yes : (eqb x.port port ≡ true) × (x.port ≡ port)). ap (λ b. cond b (x ∷ on_port port before) (on_port port before)) yes.0)
    (λ (no : (eqb x.port port ≡ false) × (x.port ≢ port)). absurd (no.1 same))
    (eqb_tells x.port port)

on_other : (port : ℕ) (x : Heard) (before : List Heard) → x.port ≢ port → on_port port (x ∷ before) ≡ on_port port before
on_other port x before other = ap (λ b. cond b (x ∷ on_port port before) (on_port port before)) (ne_eqb x.port port other)

pub ports_more : (rows : List Row) (before : List Heard) (x : Heard) (port place : ℕ) (d new : Row) → place ≡ port → port < 65536 → x.port ≡ port
    → ((heard : List Heard) → get_or rows place d ≡ row heard → new ≡ row (x ∷ heard)) → ArePorts rows before → ArePorts (set rows place new) (x ∷ before)
ports_more rows before x port place d new at within is takes h = record {
  all = length-set rows place new ∙ h.all;
  each = λ p e below. ⊎_elim
      (λ (same : p ≡ place).
      let inside : place < length rows = omega (arith, within, at, h.all, all_ports) in
      let was : get_or rows place d ≡ row_of before port = ap (λ q. get_or rows q d) at ∙ h.each port d (omega (arith, within, all_ports)) in
      ap (λ q. get_or (set rows place new) q e) same ∙ get_or-set_same rows place new e inside ∙ takes (on_port port before) was
      ∙ ap row (sym (on_it port x before is)) ∙ ap (λ q. row_of (x ∷ before) q) (sym (same ∙ at)))
      (λ (other : p ≢ place).
      get_or-set_other rows place p new e other ∙ h.each p e below ∙ ap row (sym (on_other p x before (λ same. other (sym same ∙ is ∙ sym at)))))
      (cases_eq p place);
}

rows_at : (n p : ℕ) (r d : Row) → p < n → get_or (replicate n r) p d ≡ r
rows_at n p r d h = get_or-replicate n p r d h

pub no_ports : (rows : List Row) (none : Row) → none ≡ row [] → rows ≡ replicate 65536 none → ArePorts rows []
no_ports rows none empty is = record {
  all = ap (λ (t : List Row). length t) is ∙ length-replicate 65536 none ∙ sym all_ports;
  each = λ p d below. ap (λ (t : List Row). get_or t p d) is ∙ rows_at 65536 p none d (omega (arith, below, all_ports)) ∙ empty;
}

-- as many as records

zipped : (heard : List Heard) (records : List Record) → AllZip IsHeard heard records → length heard ≡ length records
zipped [] [] h = refl
zipped [] (r ∷ records) h = absurd h
zipped (x ∷ heard) [] h = absurd h
zipped (x ∷ heard) (r ∷ records) h = ap suc (zipped heard records h.1)

pub as_many : (heard : List Heard) (records : List Record) → AreHeard heard records → length heard ≡ length records
as_many heard records h = zipped heard (reverse records) h ∙ length-reverse records
