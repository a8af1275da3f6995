-- What a turn of the admitter carries on.
use Rattle.std.proofs.Common.{◌≡◌, ◌+◌, ◌≤◌, ◌++◌, ℕ, true, false, List, [], ◌∷◌, map, Option, Some, None, refl, sym, ap, subst, ◌∙◌, le_refl}
use Rattle.std.proofs.lemmas.List.{map-append}
use Rattle.std.proofs.lemmas.List.Elements.{All-cons, All-nil}
use Rattle.std.specs.Prelude.{length, IfSome, option_map}
use Rattle.std.specs.List.{All}
use Rattle.fg_desk.specs.declared.desk.Played.{Played}
use Rattle.fg_playout.specs.Play.{Shown}
use Rattle.fg_turn.specs.Standing.{Standing}
use Rattle.fg_core.specs.Board.{BoardState, PlaysOn, FlushesOn, PlaysHeldOn, mark_of}
use Rattle.fg_core.specs.Views.{Told, IsBorneOut, seen_of}
use Rattle.fg_core.specs.Core.{Call, play, flush, held, play_of, IsOwned, CanCall, IsCall}
use Rattle.fg_core.specs.Codes.{Entry, call_code, call_from, told_code, told_from, IsOwnedBy, GrowsFrom, CallsAreReadBack, ToldIsReadBack}
use Rattle.fg_core.specs.Laws.{CallsExtend, CallsKeepTold, CallsMakeOneDesk}
use Rattle.fg_core.specs.Steps.{CarriesOn, IsStep}
use Rattle.fg_board.specs.Actors.{AdmitterState, MakesCall, desk_of, IsOwnBoard}
use Rattle.fg_board.specs.Deeds.{Makes}
use Rattle.fg_board.specs.OwnTurns.{standing, Enters, Leaves}
use Rattle.fg_board.specs.declared.admitter.own_seat.OwnSeat.{OwnSeat}
use Rattle.fg_board.proofs.OneTurn.{owning}

module _
    (extend : CallsExtend) (keep_told : CallsKeepTold) (back : CallsAreReadBack) (call : Call) (old new : BoardState)
    (can : CanCall old call) (does : IsCall old call new) where
  -- The entries with one more make the new board of it.
  call_extends : (entries : List Entry) → IsOwnedBy entries old → IsOwnedBy (entries ++ call_code call ∷ []) new
  call_extends [] is = absurd is
  call_extends ([] ∷ entries) is = absurd is
  call_extends ((window ∷ []) ∷ entries) is = absurd is
  call_extends ((window ∷ depth ∷ []) ∷ entries) is = absurd is
  call_extends ((window ∷ depth ∷ hold ∷ rest) ∷ entries) is =
      subst (λ (calls : List Call). IsOwned (record { window = window; depth = depth; hold = hold }) calls new)
      (ap (λ (c : Call). map call_from entries ++ c ∷ []) (sym (back call)) ∙ sym (map-append call_from entries (call_code call ∷ [])))
      (extend (record { window = window; depth = depth; hold = hold }) (map call_from entries) call old new is can does)

  call_carries_on : CarriesOn (Some (call_code call)) old new
  call_carries_on = record {
    owned = call_extends;
    grows = λ entries told is grows.
        (let o = owning entries old is in
        keep_told o.playout o.calls call old new (map told_from told) o.owned can does grows);
  }

-- A call is a step, with its entry.
pub call_steps :
    CallsExtend → CallsKeepTold → CallsAreReadBack → (seat : Standing BoardState) (call : Call) (left entered : BoardState)
    → Makes seat call entered left → IsStep (Some (call_code call)) entered left
call_steps extend keep_told back seat call left entered makes = (
  subst (λ (c : Call). IsCall entered c left) (sym (back call)) makes.does,
  call_carries_on extend keep_told back call entered left makes.can makes.does,
)

-- The calls with this one make the board that is left.
pub call_owned :
    CallsExtend → CallsKeepTold → CallsAreReadBack → (seat : Standing BoardState) (call : Call) (left entered : BoardState)
    → Makes seat call entered left → IsOwnedBy (seat.calls ++ call_code call ∷ []) left
call_owned extend keep_told back seat call left entered makes =
    call_extends extend keep_told back call entered left makes.can makes.does seat.calls makes.owned

-- The three numbers of a board hold of it.
seen_holds : (board : BoardState) → IsBorneOut board (seen_of board)
seen_holds board = (le_refl (mark_of board), le_refl board.desk.epoch, le_refl board.desk.state.admitted)

pub seen_grows : ToldIsReadBack → (board : BoardState) → GrowsFrom (told_code (seen_of board) ∷ []) board
seen_grows back board =
    subst (λ (t : Told). All (IsBorneOut board) (t ∷ [])) (sym (back (seen_of board)))
    (All-cons (IsBorneOut board) (seen_of board) [] (seen_holds board) (All-nil (IsBorneOut board)))

-- The desk that is entered is that of the calls.
pub has_entered :
    CallsMakeOneDesk → (old : OwnSeat) (inner : Standing BoardState) (entered flow : BoardState)
    → (1 ≤ old.window) × (old.window ≤ 100) × (old.window ≤ old.depth) → IsOwnBoard (standing old)
    → IsOwnedBy old.owner.calls entered → GrowsFrom old.owner.told entered
    → inner ≡ record old.owner { turns = old.owner.turns + 1; inside = true; entered = Some entered } → flow ≡ entered
    → Enters old flow (record old { owner = inner })
has_entered one_desk old inner entered flow window own owned grows inner_is same =
    subst (λ (f : BoardState). Enters old f (record old { owner = inner })) (sym same) (record {
      own = one_desk (standing old).playout (map call_from own.0) entered.desk.state (desk_of (standing old)) window.0 window.1
          window.2 (subst (λ (entries : List Entry). IsOwnedBy entries entered) own.1 owned).desk own.2.desk;
      owned = owned;
      grows = grows;
      inner_is = ap (λ (s : Standing BoardState). record old { owner = s }) inner_is;
    })

-- A whole turn, from the seat as it was to the seat as it is.
abbrev pub seat_after : OwnSeat → Call → BoardState → BoardState → OwnSeat
seat_after old call entered left = record old {
  owner = record old.owner {
    calls = old.owner.calls ++ call_code call ∷ [];
    told = old.owner.told ++ told_code (seen_of left) ∷ [];
    turns = old.owner.turns + 1;
    inside = false;
    entered = Some entered;
    left = Some left;
  };
}

module _
    (call : Call) (old inner new : OwnSeat) (entered left : BoardState) (enters : Enters old entered inner)
    (leaves : Leaves inner call left new) where
  pub new_is_after : new ≡ seat_after old call entered left
  new_is_after =
      leaves.new_is
      ∙ ap (λ (s : OwnSeat). record s {
        owner = record s.owner {
          calls = s.owner.calls ++ call_code call ∷ [];
          told = s.owner.told ++ told_code (seen_of left) ∷ [];
          inside = false;
          left = Some left;
        };
      }) enters.inner_is

  pub after_owned : IsOwnedBy (seat_after old call entered left).owner.calls left
  after_owned = subst (λ (s : OwnSeat). IsOwnedBy s.owner.calls left) new_is_after leaves.left_owned

  one_call : IsCall entered call left → MakesCall call (standing old) (standing new)
  one_call is = subst (λ (s : OwnSeat). MakesCall call (standing old) (standing s)) (sym new_is_after) (record {
    playout = refl;
    turn = refl;
    made = refl;
    seated = refl;
    turns = refl;
    entered = entered;
    entered_is = refl;
    own = enters.own;
    owned = enters.owned;
    grows = enters.grows;
    left = left;
    left_is = refl;
    call_is = is;
    left_owned = after_owned;
    calls = refl;
    told = refl;
  })

-- So it is for the admitter that has the seat, where the turn said this call.
pub call_made :
    (call said : Call) (admitter : AdmitterState) (old inner new : OwnSeat) (entered left : BoardState)
    → standing old ≡ admitter → said ≡ call → Enters old entered inner → IsCall entered call left → Leaves inner said left new
    → MakesCall call admitter (standing new)
call_made call said admitter old inner new entered left seat same enters is leaves =
    subst (λ (a : AdmitterState). MakesCall call a (standing new)) seat
    (one_call call old inner new entered left enters (subst (λ (c : Call). Leaves inner c left new) same leaves) is)

-- A play, a flush step and a held step, with what the tray shows.
pub play_is :
    (old new : BoardState) (played : Played) (shown : List Shown) → PlaysOn old (play_of played shown) new
    → played.count ≡ length shown → IsCall old (play played) new
play_is old new played shown plays count = (shown, plays, count)

pub flush_is :
    (old new : BoardState) (shown : List Shown) (played : Option Played)
    → FlushesOn old (option_map (λ (p : Played). play_of p shown) played) new
    → IfSome played (λ p. p.count ≡ length shown) → IsCall old (flush played) new
flush_is old new shown None flushes count = flushes
flush_is old new shown (Some played) flushes count = (shown, flushes, count)

pub held_is :
    (old new : BoardState) (time : ℕ) (shown : List Shown) (played : Option Played)
    → PlaysHeldOn old time (option_map (λ (p : Played). play_of p shown) played) new
    → IfSome played (λ p. p.count ≡ length shown) → IsCall old (held time played) new
held_is old new time shown None plays count = plays
held_is old new time shown (Some played) plays count = (shown, plays, count)
