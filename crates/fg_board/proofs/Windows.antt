-- What an admitter knows of its desk after it passed windows that show nothing.
use Rattle.std.proofs.Common.{◌≡◌, ◌≢◌, ◌++◌, ◌+◌, ◌≤◌, ◌<◌, ◌^◌, ℕ, zero, suc, List, [], ◌∷◌, Option, Some, None, IfSome, refl, sym, ap, subst, ◌∙◌, arith}
use Rattle.fg_shape.specs.Shape.{position_limit}
use Rattle.fg_shape.specs.Playout.{Playout}
use Rattle.fg_playout.specs.State.{State, Top}
use Rattle.fg_playout.specs.Held.{at_time}
use Rattle.fg_core.specs.Board.{BoardState}
use Rattle.fg_core.specs.Codes.{Entry, call_code, IsOwnedBy}
use Rattle.fg_core.specs.Core.{Call}
use Rattle.fg_core.specs.Skipping.{ArePassed, Passes}
use Rattle.fg_board.specs.Actors.{IsOwnBoard}
use Rattle.fg_board.specs.Knowing.{top_of, Knows, KnowsItsDesk}
use Rattle.fg_board.specs.OwnTurns.{standing, Enters, Leaves}
use Rattle.fg_board.specs.declared.admitter.own_seat.OwnSeat.{OwnSeat}
use Rattle.fg_board.proofs.OneCall.{new_is_after, after_owned}

-- The settings and the top stay.
record Stays (old new : State) : Type 0 where
  playout : new.playout ≡ old.playout
  top : new.top ≡ old.top

passed_stays : (count : ℕ) (old new : State) → ArePassed count old new → Stays old new
passed_stays zero old new passed =
    record { playout = ap (λ (s : State). s.playout) passed; top = ap (λ (s : State). s.top) passed }
passed_stays (suc count) old new passed =
    let rest = passed_stays count passed.0 new passed.2 in record {
      playout = rest.playout ∙ ap (λ (s : State). s.playout) passed.1.rest;
      top = rest.top ∙ ap (λ (s : State). s.top) passed.1.rest;
    }

some_passed : (count : ℕ) → suc count ≢ 0
some_passed count none = omega (arith, none)

passes_stay : (time : Option ℕ) (count : ℕ) (old new : State) → Passes time count old new → Stays old new
passes_stay time zero old new passes =
    let same = passes.none refl in
    record { playout = ap (λ (s : State). s.playout) same; top = ap (λ (s : State). s.top) same }
passes_stay None (suc count) old new passes = passed_stays (suc count) old new (passes.plays (some_passed count))
passes_stay (Some time) (suc count) old new passes =
    let stays = passed_stays (suc count) (at_time old time) new (passes.plays (some_passed count)) in
    record { playout = stays.playout; top = stays.top }

-- What is known of a desk then, from what was known.
pub knows_passed :
    (time : Option ℕ) (count : ℕ) (playout : Playout) (own old new : State) (top top' : Option (ℕ × ℕ × ℕ))
    (previous previous' : Option ℕ) (runs runs' mark mark' calls calls' : ℕ)
    → Knows playout top previous runs mark calls own → old ≡ own → Passes time count old new → top_of top' ≡ new.top
    → previous' ≡ new.previous → runs' ≡ new.runs → mark' ≡ new.mark → calls' ≡ calls + count
    → new.calls ≡ old.calls + count
    → Knows playout top' previous' runs' mark' calls' new
knows_passed time count playout own old new top top' previous previous' runs runs' mark mark' calls calls' knows is passes
    top_is previous_is runs_is mark_is calls_are counted =
    let stays = passes_stay time count old new passes in
    let before = knows.calls_is in
    let same = ap (λ (s : State). s.calls) is in record {
      playout_is = stays.playout ∙ ap (λ (s : State). s.playout) is ∙ knows.playout_is;
      top_is = top_is;
      previous_is = previous_is;
      runs_is = runs_is;
      mark_is = mark_is;
      calls_is = omega (arith, before, same, calls_are, counted);
      top_limit = subst (λ (t : Option Top). IfSome t (λ t. t.position ≤ position_limit))
          (sym (stays.top ∙ ap (λ (s : State). s.top) is)) knows.top_limit;
    }

-- After a call, with the state that it left.
pub knows_its_desk :
    (call : Call) (old inner new : OwnSeat) (entered left : BoardState) (top : Option (ℕ × ℕ × ℕ)) (previous : Option ℕ)
    (runs mark calls : ℕ)
    → (1 ≤ old.window) × (old.window ≤ 100) × (old.window ≤ old.depth) → old.depth < 2 ^ 32 → IsOwnBoard (standing old)
    → Enters old entered inner → Leaves inner call left new
    → Knows (standing old).playout top previous runs mark calls left.desk.state
    → KnowsItsDesk (standing new) top previous runs mark calls
knows_its_desk call old inner new entered left top previous runs mark calls window depth own enters leaves knows =
    let all = ap (λ (entries : List Entry). entries ++ call_code call ∷ []) own.1 in
    subst (λ (s : OwnSeat). KnowsItsDesk (standing s) top previous runs mark calls)
    (sym (new_is_after call old inner new entered left enters leaves)) (record {
      outside = refl;
      window = window;
      depth = depth;
      own = (
        own.0 ++ call_code call ∷ [],
        all,
        subst (λ (entries : List Entry). IsOwnedBy entries left) all (after_owned call old inner new entered left enters leaves),
      );
      knows = knows;
    })
