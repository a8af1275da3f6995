-- The case of a desk has a text.
use Rattle.std.proofs.Common.{◌≡◌, ◌≢◌, ◌+◌, ◌-◌, ◌^◌, ◌<◌, ◌≤◌, ◌&&◌, ℕ, Bool, true, false, T, eqb, List, [], ◌∷◌, ◌++◌, map, length, get_or, IsSome, Ordering, Equal, Greater, ◌||◌, inl, inr, refl, sym, ap, subst, ⊎_elim, arith, ne_eqb, length-append}
use Rattle.std.proofs.lemmas.Bool.{cases_lt}
use Rattle.std.proofs.lemmas.Bool.Decides.{Decides-eqb}
use Rattle.std.proofs.lemmas.Cmp.{by_ranked}
use Rattle.std.proofs.lemmas.List.{length-map}
use Rattle.std.proofs.lemmas.List.Elements.{Contains-get_or}
use Rattle.std.proofs.lemmas.Map.Keys.{IsDistinct-cons}
use Rattle.std.proofs.lemmas.Map.Steps.{length-le_from_distinct_below}
use Rattle.std.specs.List.{All, AllByRecursion, Contains, IsDistinct, list_any}
use Rattle.std.specs.Ordering.{nat_cmp, is_lt}
use Rattle.std.specs.Cmp.{ranks}
use Rattle.std.specs.FinMap.{get, entries, entries_sorted}
use Rattle.std.specs.FinMap.Entries.{is_sorted, below_all}
use Rattle.fg_shape.specs.declared.Shape.{Shape}
use Rattle.fg_peel.proofs.Lists.{Contains-here, Contains-there, Contains-cases, Contains-nil}
use Rattle.fg_peel.proofs.Maps.{get_of_entry}
use Rattle.fg_peel.proofs.Options.{value_of}
use Rattle.fg_playout.specs.State.{State, Live, known, live_equations, last_slot}
use Rattle.fg_playout.specs.Facts.{Holds}
use Rattle.fg_playout.specs.Room.{HasRoom}
use Rattle.fg_playout.proofs.Orderly.{known_ahead, known_below}
use Rattle.fg_runs.specs.Runs.{AreApart, InRuns, run_end}
use Rattle.fg_closure.specs.Holes.{IsHole, rule_of}
use Rattle.fg_proof.specs.declared.case.Case.{Case}
use Rattle.fg_proof.specs.Case.{IsCase}
use Rattle.fg_proof.specs.Judgement.{AreInOrder, IsRule}
use Rattle.fg_proof.specs.Text.{Line, Head, Known, Rule, Open, End, IsWritableRun, IsWritable}
use Rattle.fg_proof.specs.WritableCases.{CasesAreWritable}
use Rattle.fg_proof.proofs.CasesTrue.{runs_in_order, known_limit, hole_limit, rule_is, live_of, equation_at}

-- Runs of positions within a span are no more than its positions.

in_more : (run : ℕ × ℕ) (more : List (ℕ × ℕ)) (position : ℕ) → AreApart (run ∷ more) → InRuns more position → run_end run < position
in_more run [] position apart in_runs = absurd in_runs
in_more run (next ∷ more) position apart in_runs = ⊎_elim
    (λ here. omega (arith, apart.1, here.0))
    (λ there. (let rest = in_more next more position apart.2 there in omega (arith, apart.1, apart.2.0, rest)))
    in_runs

runs_few :
    (runs : List (ℕ × ℕ)) (low high : ℕ) → AreApart runs → ((position : ℕ) → InRuns runs position → (low ≤ position) × (position < high))
    → length runs ≤ high - low
runs_few [] low high apart within = omega arith
runs_few (run ∷ more) low high apart within =
    let first = within run.0 (inl (omega arith, omega (arith, apart.0))) in
    let last = within (run_end run - 1) (inl (omega (arith, apart.0), omega (arith, apart.0))) in
    let rest = runs_few more (run_end run) high apart.2
    (λ position in_runs.
    let past = in_more run more position apart in_runs in
    let below = within position (inr in_runs) in
    (omega (arith, past), below.1)) in
    omega (arith, rest, first, last, apart.0)

-- Places that differ and lie below a limit are no more than it.

both_true : (a b : Bool) → T (a && b) → T a × T b
both_true true b h = (tt, h)
both_true false b h = absurd h

less : (x y : ℕ) → T (is_lt (nat_cmp x y)) → x < y
less x y h =
    let other : (o : Ordering) → nat_cmp x y ≡ o → T (is_lt o) = λ o is. subst (λ (r : Ordering). T (is_lt r)) is h in
    by_ranked (x < y) (x ≡ y) (y < x) (nat_cmp x y) (ranks x y) (λ is low. low) (λ is same. absurd (other Equal is)) (λ is high. absurd (other Greater is))

below_each : (key : ℕ) (es : List (ℕ × Live)) → T (below_all nat_cmp key es) → (e : ℕ × Live) → Contains es e → key < e.0
below_each key [] below e c = absurd (Contains-nil e c)
below_each key (first ∷ es) below e c =
    let both = both_true (is_lt (nat_cmp key first.0)) (below_all nat_cmp key es) below in
    ⊎_elim
    (λ here. subst (λ (x : ℕ × Live). key < x.0) (sym here) (less key first.0 both.0))
    (λ there. below_each key es both.1 e there)
    (Contains-cases first es e c)

abbrev places_of : List (ℕ × Live) → List ℕ
places_of es = map (λ (e : ℕ × Live). e.1.place) es

others_differ :
    (place : ℕ) (es : List (ℕ × Live)) → ((e : ℕ × Live) → Contains es e → place ≢ e.1.place)
    → AllByRecursion (λ y. eqb place y ≡ false) (places_of es)
others_differ place [] differ = tt
others_differ place (e ∷ es) differ =
    (ne_eqb place e.1.place (differ e (Contains-here e es)), others_differ place es (λ x c. differ x (Contains-there e es x c)))

places_differ :
    (es : List (ℕ × Live)) → T (is_sorted nat_cmp es)
    → ((one other : ℕ × Live) → Contains es one → Contains es other → one.0 ≢ other.0 → one.1.place ≢ other.1.place)
    → IsDistinct eqb (places_of es)
unfolding IsDistinct
places_differ [] sorted apart = tt
places_differ (e ∷ es) sorted apart =
    let both = both_true (below_all nat_cmp e.0 es) (is_sorted nat_cmp es) sorted in
    IsDistinct-cons eqb e.1.place (places_of es)
    (others_differ e.1.place es (λ x c.
    let past = below_each e.0 es both.0 x c in
    apart e x (Contains-here e es) (Contains-there e es x c) (omega (arith, past))))
    (places_differ es both.1 (λ one other c d. apart one other (Contains-there e es one c) (Contains-there e es other d)))

place_below : (es : List (ℕ × Live)) (limit : ℕ) → ((e : ℕ × Live) → Contains es e → e.1.place < limit) → (q : ℕ) → list_any (eqb q) (places_of es) ≡ true → q < limit
place_below [] limit below q any = absurd (cc)
place_below (e ∷ es) limit below q any =
    go (place_below es limit (λ x c. below x (Contains-there e es x c)) q) (eqb q e.1.place) refl any
  where
    go : (list_any (eqb q) (places_of es) ≡ true → q < limit) → (b : Bool) → eqb q e.1.place ≡ b → (b || list_any (eqb q) (places_of es)) ≡ true → q < limit
    go rest true same here = let is : q ≡ e.1.place = (Decides-eqb q e.1.place).0 same in let under = below e (Contains-here e es) in omega (arith, is, under)
    go rest false same there = rest there

live_few : (desk : State) → Holds desk → length (live_equations desk) ≤ 512
live_few desk holds =
    let es = entries desk.equations in
    let many : length (places_of es) ≤ 512 = length-le_from_distinct_below (places_of es) 512
    (places_differ es (entries_sorted desk.equations)
    (λ one other c d differ. (holds.apart one.0 other.0 one.1 other.1 (get_of_entry desk.equations one c) (get_of_entry desk.equations other d) differ).places))
    (place_below es 512 (λ e c. (holds.live e.0 e.1 (get_of_entry desk.equations e c)).placed)) in
    omega (arith, many, length-map es (λ (e : ℕ × Live). e.1.place), length-map es (λ (e : ℕ × Live). e.1.equation))

-- A case

joined_few :
    (head : Line) (first second third : List Line) → length first ≤ 1100 → length second ≤ 512 → length third ≤ 1200
    → length (head ∷ first ++ second ++ third ++ End ∷ []) ≤ 10000
joined_few head first second third few_first few_second few_third =
    let two : length (first ++ second) ≡ length first + length second = length-append first second in
    let three : length ((first ++ second) ++ third) ≡ length (first ++ second) + length third = length-append (first ++ second) third in
    let all : length (((first ++ second) ++ third) ++ End ∷ []) ≡ length ((first ++ second) ++ third) + 1 =
    length-append ((first ++ second) ++ third) (End ∷ []) in
    omega (arith, few_first, few_second, few_third, two, three, all)

runs_are_writable : (runs : List (ℕ × ℕ)) → AreInOrder runs → All IsWritableRun runs
runs_are_writable runs order k d below =
    let near = order.within k d below in
    (omega (arith, near), omega (arith, near))

known_near : (desk : State) → Holds desk → (position : ℕ) → IsSome (known desk position) → (desk.mark ≤ position + 100) × (position < desk.mark + desk.playout.depth)
known_near desk holds position some = ⊎_elim
    (λ below.
    let v = value_of (get desk.kept position) (subst IsSome (known_below desk position below) some) in
    let near = (holds.kept position v.0 v.1).near in
    let deep = holds.depth in
    (near, omega (arith, below)))
    (λ ahead.
    let v = value_of (get desk.media position) (subst IsSome (known_ahead desk position ahead) some) in
    let near = (holds.media position v.0 v.1).near in
    (omega (arith, ahead), near))
    (cases_lt position desk.mark)

module _ (desk : State) (holds : Holds desk) (room : HasRoom desk) (deep : desk.playout.depth ≤ 1000) where
  hole_near : (count position : ℕ) → IsHole desk count position → (desk.mark ≤ position) × (position < desk.mark + count + 1100)
  hole_near count position hole = (
    hole.looked_at.ahead,
    ⊎_elim
        (λ near. omega (arith, near))
        (λ at.
        let live = live_of desk holds room deep at.0 at.1 in
        let near = subst (λ e. last_slot e < desk.mark + desk.playout.depth + 100) live.3 live.2.near in
        omega (arith, near, at.2, deep))
        hole.looked_at.near,
  )

  module _ (port count : ℕ) (case : Case) (few : count ≤ 100) (fits : port < 2 ^ 16) (is : IsCase port desk count case) where
    knowns_in_order : AreInOrder case.known
    knowns_in_order = runs_in_order (λ position. IsSome (known desk position)) case.known is.known_are (known_limit desk holds room deep)

    holes_in_order : AreInOrder case.holes
    holes_in_order = runs_in_order (IsHole desk count) case.holes is.holes_are (λ position hole. hole_limit desk holds room deep count position few hole)

    knowns_few : length case.known ≤ 1100
    knowns_few =
        let n = runs_few case.known (desk.mark - 100) (desk.mark + desk.playout.depth) is.known_are.apart
        (λ position in_runs.
        let near = known_near desk holds position ((is.known_are.inside position).0 in_runs) in
        (omega (arith, near), near.1)) in
        omega (arith, n, deep)

    holes_few : length case.holes ≤ 1200
    holes_few =
        let n = runs_few case.holes desk.mark (desk.mark + count + 1100) is.holes_are.apart
        (λ position in_runs. hole_near count position ((is.holes_are.inside position).0 in_runs)) in
        omega (arith, n, few)

    lines_few : length case.lines ≤ 512
    lines_few =
        let same = ap (λ (l : List (ℕ × Shape)). length l) is.lines_are in
        omega (arith, same, length-map (live_equations desk) rule_of, live_few desk holds)

    writable : IsWritable case
    writable = record {
      port = omega (arith, fits, is.port_is);
      mark = (let below = room.mark in omega (arith, below, is.mark_is));
      count = omega (arith, few, is.count_is);
      known = runs_are_writable case.known knowns_in_order;
      lines = λ k d below.
          let e = equation_at desk holds room deep port count case few is (get_or case.lines k d) (Contains-get_or case.lines k d below) in
          let rule = subst IsRule e.2 (rule_is desk holds room deep e.0 e.1) in
          let base = rule.base in
          let offset = rule.shape.offset_limit in
          let slots = rule.shape.slot_limit in
          (omega (arith, base), omega (arith, offset), omega (arith, slots));
      holes = runs_are_writable case.holes holes_in_order;
      few = joined_few (Head case.port case.mark case.count) (map Known case.known) (map Rule case.lines) (map Open case.holes)
          (subst (λ n. n ≤ 1100) (sym (length-map case.known Known)) knowns_few)
          (subst (λ n. n ≤ 512) (sym (length-map case.lines Rule)) lines_few)
          (subst (λ n. n ≤ 1200) (sym (length-map case.holes Open)) holes_few);
    }

pub cases_are_writable : CasesAreWritable
cases_are_writable port count desk case holds room deep few fits is = writable desk holds room deep port count case few fits is
