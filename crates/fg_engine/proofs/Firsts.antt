-- The first ports of a list, and the lanes that were made for them.
use Rattle.std.proofs.Common.{◌≡◌, ◌⊎◌, inl, inr, ℕ, ◌+◌, ◌<◌, Option, Some, None, IsSome, List, [], length, take, slice_index, refl, sym, ap, ◌∙◌, subst, arith}
use Rattle.std.specs.List.{Contains}
use Rattle.std.proofs.lemmas.Bool.{cases_eq}
use Rattle.std.proofs.lemmas.List.{get_or_default, get_or-take, length-take}
use Rattle.fg_io.specs.Outlet.{Lanes, lane_of, WhereTold}
use Rattle.fg_engine.specs.Engine.{LanesGrow, GrowAll, MakesFirst}
use Rattle.fg_results.specs.Lanes.{OthersStay}
use Rattle.fg_results.proofs.StopLemmas.{first_in}
use Rattle.fg_engine.specs.Steps.{LaneGrows, Grows}
use Rattle.fg_engine.proofs.Lanes.{AreMade, contains_at, grow_none, there_at}

pub first_has : (ports : List ℕ) (i k : ℕ) → k < i → k < length ports → Contains (take i ports) (slice_index ports k)
first_has ports i k below inside = (
  k,
  omega (arith, length-take i ports),
  get_or-take i ports k (slice_index ports k) below ∙ get_or_default ports k (slice_index ports k) 0 inside,
)

-- which of the list it is
pub record IsFirst (ports : List ℕ) (i port : ℕ) : Type 0 where
  pub at : ℕ
  pub below : at < i
  pub inside : at < length ports
  pub is : slice_index ports at ≡ port

pub first_at : (ports : List ℕ) (i port : ℕ) → Contains (take i ports) port → IsFirst ports i port
first_at ports i port c =
    let short : c.0 < length (take i ports) = c.1 in
    let below : c.0 < i = omega (arith, length-take i ports) in
    let inside : c.0 < length ports = omega (arith, length-take i ports) in
    record {
      at = c.0;
      below = below;
      inside = inside;
      is = get_or_default ports c.0 0 port inside ∙ sym (get_or-take i ports c.0 port below) ∙ c.2;
    }

first_more : (ports : List ℕ) (i port : ℕ) → Contains (take i ports) port → Contains (take (i + 1) ports) port
first_more ports i port c =
    let f = first_at ports i port c in
    let below : f.at < i = f.below in
    subst (Contains (take (i + 1) ports)) f.is (first_has ports (i + 1) f.at (omega arith) f.inside)

-- All other lanes are as they were

abbrev pub OthersAre : List ℕ → ℕ → Option Lanes → Option Lanes → Type 0
OthersAre ports count before now = WhereTold (OthersStay (take count ports)) before now

pub others_none : (ports : List ℕ) (now : Option Lanes) → OthersAre ports 0 now now
others_none ports (Some now) = λ other c. refl
others_none ports None = tt

pub others_more :
    (ports : List ℕ) (i : ℕ) (before now after : Option Lanes) → i < length ports → OthersAre ports i before now
    → Grows now (slice_index ports i) [] after → OthersAre ports (i + 1) before after
others_more ports i (Some before) (Some now) (Some after) inside o h =
    λ other c. h.others other (λ e. c (subst (Contains (take (i + 1) ports)) (sym e) (first_has ports (i + 1) i (omega arith) inside)))
    ∙ o other (λ k. c (first_more ports i other k))
others_more ports i (Some before) (Some now) None inside o h = absurd h
others_more ports i (Some before) None after inside o h = absurd o
others_more ports i None (Some now) after inside o h = absurd o
others_more ports i None None (Some after) inside o h = absurd h
others_more ports i None None None inside o h = tt

-- Where a put fails

is_there : (lane : Option (List ℕ)) → IsSome lane ⊎ (lane ≡ None)
is_there (Some bytes) = inl refl
is_there None = inr refl

there_first : (ports : List ℕ) (i : ℕ) (now after : Lanes) → ((k : ℕ) → k < i → IsSome (lane_of now (slice_index ports k))) → LaneGrows now (slice_index ports i) [] after → (k : ℕ) → k < i → IsSome (lane_of after (slice_index ports k))
there_first ports i now after made h k below =
    there_at now after (slice_index ports i) [] h (slice_index ports k) (made k below) (cases_eq (slice_index ports k) (slice_index ports i))

there_last : (ports : List ℕ) (i : ℕ) (now after : Lanes) → ((k : ℕ) → k < i → IsSome (lane_of now (slice_index ports k))) → LaneGrows now (slice_index ports i) [] after → IsSome (lane_of after (slice_index ports i)) → (k : ℕ) → k < i + 1 → (k ≡ i) ⊎ (k ≡ i → ⊥) → IsSome (lane_of after (slice_index ports k))
there_last ports i now after made h some k below (inl e) = subst (λ j. IsSome (lane_of after (slice_index ports j))) (sym e) some
there_last ports i now after made h some k below (inr ne) = there_first ports i now after made h k (omega arith)

-- the lane whose put failed was not made
still_none : (before after : Option (List ℕ)) → (IsSome before → IsSome after) → after ≡ None → after ≡ before
still_none None after kept none = none
still_none (Some bytes) after kept none = absurd (let some : IsSome after = kept refl in cc)

others_but : (ports : List ℕ) (i : ℕ) (before now after : Lanes) → OthersStay (take i ports) before now → LaneGrows now (slice_index ports i) [] after → lane_of after (slice_index ports i) ≡ lane_of before (slice_index ports i) → (q : ℕ) → (Contains (take i ports) q → ⊥) → (q ≡ slice_index ports i) ⊎ (q ≡ slice_index ports i → ⊥) → lane_of after q ≡ lane_of before q
others_but ports i before now after o h same q c (inl e) = ap (lane_of after) e ∙ same ∙ ap (lane_of before) (sym e)
others_but ports i before now after o h same q c (inr ne) = h.others q ne ∙ o q c

makes_told :
    (ports : List ℕ) (i : ℕ) (before now after : Lanes) → i < length ports
    → LanesGrow before ports (λ _. []) after → OthersStay (take i ports) before now
    → ((k : ℕ) → k < i → IsSome (lane_of now (slice_index ports k))) → LaneGrows now (slice_index ports i) [] after
    → IsSome (lane_of after (slice_index ports i)) ⊎ (lane_of after (slice_index ports i) ≡ None)
    → MakesFirst ports (Some before) (Some after)
makes_told ports i before now after inside g o made h (inl some) = record {
  count = i + 1;
  grow = record {
    lanes = λ q c. g.lanes q (first_in ports (i + 1) q c);
    others = others_more ports i (Some before) (Some now) (Some after) inside o h;
  };
  there = λ q c.
      let f = first_at ports (i + 1) q c in
      subst (λ p. IsSome (lane_of after p)) f.is (there_last ports i now after made h some f.at f.below (cases_eq f.at i));
}
makes_told ports i before now after inside g o made h (inr none) =
    let same = still_none (lane_of before (slice_index ports i)) (lane_of after (slice_index ports i)) (g.lanes (slice_index ports i) (contains_at ports i inside)).kept none in
    record {
      count = i;
      grow = record {
        lanes = λ q c. g.lanes q (first_in ports i q c);
        others = λ q c. others_but ports i before now after o h same q c (cases_eq q (slice_index ports i));
      };
      there = λ q c.
          let f = first_at ports i q c in
          subst (λ p. IsSome (lane_of after p)) f.is (there_first ports i now after made h f.at f.below);
    }

pub makes_first :
    (ports : List ℕ) (i : ℕ) (before now after : Option Lanes) → i < length ports
    → GrowAll before ports (λ _. []) after → OthersAre ports i before now → AreMade ports i now
    → Grows now (slice_index ports i) [] after → MakesFirst ports before after
makes_first ports i (Some before) (Some now) (Some after) inside g o made h =
    makes_told ports i before now after inside g o made h (is_there (lane_of after (slice_index ports i)))
makes_first ports i (Some before) (Some now) None inside g o made h = absurd h
makes_first ports i (Some before) None after inside g o made h = absurd o
makes_first ports i None (Some now) after inside g o made h = absurd o
makes_first ports i None None (Some after) inside g o made h = absurd h
makes_first ports i None None None inside g o made h = record { count = 0; grow = tt; there = tt }

-- where none is made
pub makes_none : (ports : List ℕ) (now : Option Lanes) → MakesFirst ports now now
makes_none ports (Some now) = record { count = 0; grow = grow_none (Some now) (take 0 ports); there = λ port c. absurd (omega (arith, c.1)) }
makes_none ports None = record { count = 0; grow = tt; there = tt }
