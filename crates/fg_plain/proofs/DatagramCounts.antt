-- How a plain run counts datagrams.
use Rattle.std.proofs.Common.{◌≡◌, ◌+◌, ◌<◌, ◌≤◌, ◌++◌, ℕ, zero, suc, min, Bool, true, false, cond, List, [], ◌∷◌, map, take, length, get_or, Option, refl, sym, ap, ◌∙◌, arith, length-take}
use Rattle.std.proofs.lemmas.List.{length-map, map-append, take_more}
use Rattle.std.specs.Int.{from_bool}
use Rattle.fg_playout.specs.declared.reply.Reply.{Reply}
use Rattle.fg_shape.specs.declared.kind.Kind.{Kind}
use Rattle.fg_plain.specs.declared.run.Datagram.{Datagram}
use Rattle.fg_plain.specs.Datagrams.{arrival_of}
use Rattle.fg_playout.specs.Run.{Arrival, is_counted, count_of}
use Rattle.fg_playout.proofs.Counts.{counts_add}

-- A truth value as a number.
pub byte_of : (b : Bool) → from_bool b ≡ cond b 1 0
byte_of true = refl
byte_of false = refl

-- The count of one more datagram, which is counted or not, and of all of them.
pub count_more :
    (stream : Kind) (reply : Option Reply) (datagrams : List Datagram) (answers : List (Option Reply)) (i : ℕ)
    (datagram : Datagram) (answer answer' : Option Reply) (counted : Bool) (count : ℕ)
    → i < length datagrams → i < length answers → answer ≡ get_or answers i answer'
    → counted ≡ is_counted stream reply (arrival_of (get_or datagrams i datagram)) answer
    → count ≡ count_of stream reply (map arrival_of (take i datagrams)) (take i answers)
    → count + cond counted 1 0
    ≡ count_of stream reply (map arrival_of (take (i + 1) datagrams)) (take (i + 1) answers)
count_more stream reply datagrams answers i datagram answer answer' counted count below below' is tested so = sym (
    (λ j. count_of stream reply (map arrival_of (take_more datagrams i datagram below j)) (take_more answers i answer' below' j))
    ∙ ap (λ (xs : List Arrival). count_of stream reply xs (take i answers ++ get_or answers i answer' ∷ []))
    (map-append arrival_of (take i datagrams) (get_or datagrams i datagram ∷ []))
    ∙ counts_add stream reply (get_or answers i answer') (map arrival_of (take i datagrams)) (arrival_of (get_or datagrams i datagram))
    (take i answers) (simp (length-map, length-take) (omega (arith, below, below')))
    ∙ ap (λ (a : Option Reply). count_of stream reply (map arrival_of (take i datagrams)) (take i answers)
    + cond (is_counted stream reply (arrival_of (get_or datagrams i datagram)) a) 1 0) (sym is)
    ∙ ap (λ (b : Bool). count_of stream reply (map arrival_of (take i datagrams)) (take i answers) + cond b 1 0) (sym tested)
    ∙ ap (λ (n : ℕ). n + cond counted 1 0) (sym so)
    )

pub count_all :
    (stream : Kind) (reply : Option Reply) (datagrams : List Datagram) (answers : List (Option Reply)) (i : ℕ)
    → min (length datagrams) (length answers) ≤ i
    → count_of stream reply (map arrival_of (take i datagrams)) (take i answers)
    ≡ count_of stream reply (map arrival_of datagrams) answers
count_all stream reply [] answers zero all = refl
count_all stream reply [] answers (suc i) all = refl
count_all stream reply (datagram ∷ datagrams) [] zero all = refl
count_all stream reply (datagram ∷ datagrams) [] (suc i) all = refl
count_all stream reply (datagram ∷ datagrams) (answer ∷ answers) zero all = absurd (omega (arith, all))
count_all stream reply (datagram ∷ datagrams) (answer ∷ answers) (suc i) all =
    ap (λ (n : ℕ). cond (is_counted stream reply (arrival_of datagram) answer) 1 0 + n)
    (count_all stream reply datagrams answers i (omega (arith, all)))
