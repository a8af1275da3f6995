-- What a flow's calls make of its board, from what the desk's calls make of the desk.
use Rattle.std.proofs.Common.{◌≡◌, ◌≢◌, ◌<◌, ℕ, Bool, List, length, replicate, set, true, true≢false, Option, Some, None, IfSome, IfNone, option_map, refl, sym, ap, subst, ◌∙◌, ⊎_elim, arith}
use Rattle.std.proofs.lemmas.Bool.{cases_lt}
use Rattle.std.proofs.lemmas.List.{get_or-replicate, get_or_past, length-replicate}
use Rattle.std.specs.FinMap.{get}
use Rattle.std.specs.FinSet.{contains-empty}
use Rattle.std.specs.Ordering.{nat_cmp}
use Rattle.fg_shape.specs.Playout.{Playout}
use Rattle.fg_peel.proofs.Options.{some_and}
use Rattle.fg_playout.specs.declared.reply.Reply.{Reply}
use Rattle.fg_playout.specs.declared.reply.Reply.TheVariants.{Admitted}
use Rattle.fg_playout.specs.declared.reply.Outcome.TheVariants.{Repaired}
use Rattle.fg_desk.specs.declared.desk.Played.{Played}
use Rattle.fg_playout.specs.State.{State, Live}
use Rattle.fg_playout.specs.Facts.{Holds}
use Rattle.fg_playout.specs.Admission.{Parity, AdmitsParity}
use Rattle.fg_buffer.specs.BufferEntries.{positions_below}
use Rattle.fg_playout.specs.Play.{Play, Shown, IsPlay, Flushes}
use Rattle.fg_playout.specs.Held.{IsHeldStep}
use Rattle.fg_desk.specs.Contents.{Contents, IsPlaceAfter, ChangesInPlay, opened}
use Rattle.fg_core.specs.Board.{BoardState, IsCurrent, IsHeld, AdmitsParityOn, PlaysOn, FlushesOn, PlaysHeldOn, GivesKey, opened_board, with_vouched}
use Rattle.fg_core.specs.Core.{play_of}
use Rattle.fg_core.specs.Flow.{no_note, note_at, says, is_vouched, is_handed_out, board_of, with_handed, AreKept}
use Rattle.fg_core.specs.Skipping.{Passes, PassesOn}
use Rattle.fg_core.specs.declared.key.Key.{Key}
use Rattle.fg_core.specs.declared.notes.Note.{Note}
use Rattle.fg_core.proofs.Follows.{counted_follows, told_follows, parity_follows, play_follows, held_follows}
use Rattle.fg_core.proofs.Noting.{keeps_notes, are_kept, put_same, put_as, put_kept}
use Rattle.fg_core.proofs.Passing.{skip_follows}

-- Nothing is noted at first.
pub opened_is : (playout : Playout) (notes : List Note) → board_of (opened playout) notes ≡ opened_board playout
unfolding positions_below
opened_is playout notes = refl

no_note_at : (place : ℕ) → note_at (replicate 512 no_note) place ≡ no_note
no_note_at place = ⊎_elim
    (λ below. get_or-replicate 512 place no_note no_note below)
    (λ past. get_or_past (replicate 512 no_note) place no_note (omega (arith, past, length-replicate {A = Note} 512 no_note)))
    (cases_lt place 512)

pub opened_kept : (playout : Playout) → AreKept (opened playout) (replicate 512 no_note)
opened_kept playout = record {
  past = λ place tells. ⊎_elim
      (λ is. absurd (true≢false (sym is ∙ ap (λ (m : Note). m.vouched) (no_note_at place))))
      (λ is. absurd (true≢false (sym is ∙ ap (λ (m : Note). m.handed_out) (no_note_at place))))
      tells;
  bare = λ position is. absurd (true≢false (sym is ∙ contains-empty nat_cmp position));
}

-- The key of an equation that was admitted, from its place.
abbrev pub key_of : ℕ → ℕ → Option ℕ → Option Key
key_of serial epoch None = None
key_of serial epoch (Some place) = Some (record { place = place; serial = serial; epoch = epoch })

gives_key :
    (old new : State) (epoch : ℕ) (reply : Reply) (place : Option ℕ) → IsPlaceAfter old reply place new
    → GivesKey old reply (key_of old.admitted epoch place) new
gives_key old new epoch Admitted None is = absurd (is refl)
gives_key old new epoch Admitted (Some place) is =
    let r = some_and (get new.equations old.admitted) (λ live. live.place ≡ place) is.1 in (refl, (r.0, r.1, r.2))
gives_key old new epoch other None is = tt
gives_key old new epoch other (Some place) is = let e = is.0 in absurd (cc)

key_is_now : (serial epoch : ℕ) (place : Option ℕ) → IfSome (key_of serial epoch place) (λ key. key.epoch ≡ epoch)
key_is_now serial epoch None = tt
key_is_now serial epoch (Some place) = refl

module _ (old new : Contents) (notes : List Note) (kept : AreKept old notes) where
  pub parity_on :
      (parity : Parity) (reply : Reply) (place : Option ℕ) → AdmitsParity old.state parity reply new.state
      → new ≡ record old { state = new.state } → IsPlaceAfter old.state reply place new.state
      → AdmitsParityOn (board_of old notes) parity reply (key_of old.state.admitted new.epoch place) (board_of new notes)
  parity_on parity reply place admits rest placed = record {
    state = admits;
    solved = rest;
    key_is = gives_key old.state new.state new.epoch reply place placed;
    key_epoch = key_is_now old.state.admitted new.epoch place;
    notes = keeps_notes notes old new kept (parity_follows old new kept.bare parity reply admits rest);
  }

  pub plays_on :
      (play : Play) → IsPlay old.state.playout.window old.state play new.state → ChangesInPlay play.outcome old new
      → PlaysOn (board_of old notes) play (board_of new notes)
  plays_on play plays changes = record {
    state = plays;
    changes = changes;
    notes = keeps_notes notes old new kept (play_follows old new kept.bare old.state.playout.window play plays changes);
  }

  pub flushes_on :
      (result : Option Played) (shown : List Shown)
      → Flushes old.state (option_map (λ played. play_of played shown) result) new.state
      → IfSome result (λ played. (played.count ≡ length shown) × ChangesInPlay played.verdict old new)
      → IfNone result (new ≡ record old { state = new.state })
      → FlushesOn (board_of old notes) (option_map (λ played. play_of played shown) result) (board_of new notes)
  flushes_on None shown flushes some none =
      (flushes, none, keeps_notes notes old new kept (counted_follows old new kept.bare none flushes.1))
  flushes_on (Some played) shown flushes some none =
      (flushes, some.1, keeps_notes notes old new kept (play_follows old new kept.bare _ (play_of played shown) flushes.plays some.1))

  pub plays_held_on :
      (time : ℕ) (result : Option Played) (shown : List Shown)
      → IsHeldStep old.state time (option_map (λ played. play_of played shown) result) new.state
      → IfSome result (λ played. (played.count ≡ length shown) × ChangesInPlay played.verdict old new)
      → IfNone result (new ≡ record old { state = new.state })
      → PlaysHeldOn (board_of old notes) time (option_map (λ played. play_of played shown) result) (board_of new notes)
  plays_held_on time None shown held some none =
      (held, none, keeps_notes notes old new kept (told_follows old new kept.bare time none held.1))
  plays_held_on time (Some played) shown held some none = (
    held,
    some.1,
    keeps_notes notes old new kept (held_follows old new kept.bare time _ (play_of played shown) held.plays some.1),
  )

  pub passes_on :
      (time : Option ℕ) (count : ℕ) → Passes time count old.state new.state → (count ≡ 0 → new ≡ old)
      → (count ≢ 0 → ChangesInPlay Repaired old new) → PassesOn (board_of old notes) time count (board_of new notes)
  passes_on time count passes none changes = record {
    state = passes;
    none = none;
    changes = changes;
    notes = keeps_notes notes old new kept (skip_follows time old new kept.bare count passes none changes);
  }

-- A step of the desk that a flow holds is one on its board. `Step` is what the desk's call owes, `On` what the flow's does, and
-- `Count` and `Still` are what both say of the tray.
pub step_on_board :
    (Step : State → State → Type 0) (On : BoardState → BoardState → Type 0) (Count : Played → Type 0) (Still : Type 0)
    (result : Option Played) (held desk new : Contents) (notes notes' : List Note) (board : BoardState)
    → (Step held.state new.state → IfSome result (λ played. Count played × ChangesInPlay played.verdict held new)
    → IfNone result (new ≡ record held { state = new.state }) → On (board_of held notes) (board_of new notes))
    → desk ≡ held → notes' ≡ notes → board_of held notes ≡ board
    → Step desk.state new.state → IfSome result (λ played. Count played × ChangesInPlay played.verdict desk new)
    → IfNone result ((new ≡ record desk { state = new.state }) × Still) → On board (board_of new notes')
step_on_board Step On Count Still result held desk new notes notes' board follows same same_notes is step some none =
    subst (λ (ns : List Note). On board (board_of new ns)) (sym same_notes)
    (subst (λ (b : BoardState). On b (board_of new notes)) is
    (follows (subst (λ (d : Contents). Step d.state new.state) same step)
    (subst (λ (d : Contents). IfSome result (λ played. Count played × ChangesInPlay played.verdict d new)) same some)
    (subst (λ (d : Contents). IfNone result (new ≡ record d { state = new.state })) same (first result none))))
  where
    first : (r : Option Played) → IfNone r ((new ≡ record desk { state = new.state }) × Still) → IfNone r (new ≡ record desk { state = new.state })
    first None both = both.0
    first (Some played) both = both

-- So are windows that are passed.
pub pass_on_board :
    (time : Option ℕ) (count : ℕ) (held desk new : Contents) (notes notes' : List Note) (board : BoardState)
    → AreKept held notes → desk ≡ held → notes' ≡ notes → board_of held notes ≡ board
    → Passes time count desk.state new.state → (count ≡ 0 → new ≡ desk) → (count ≢ 0 → ChangesInPlay Repaired desk new)
    → PassesOn board time count (board_of new notes')
pass_on_board time count held desk new notes notes' board kept same same_notes is passes none changes =
    subst (λ (ns : List Note). PassesOn board time count (board_of new ns)) (sym same_notes)
    (subst (λ (b : BoardState). PassesOn b time count (board_of new notes)) is
    (passes_on held new notes kept time count (subst (λ (d : Contents). Passes time count d.state new.state) same passes)
    (λ zero_is. none zero_is ∙ same)
    (λ some. subst (λ (d : Contents). ChangesInPlay Repaired d new) same (changes some))))

pub pass_keeps :
    (time : Option ℕ) (count : ℕ) (held desk new : Contents) (notes notes' : List Note) → AreKept held notes → desk ≡ held
    → notes' ≡ notes → Passes time count desk.state new.state → (count ≡ 0 → new ≡ desk)
    → (count ≢ 0 → ChangesInPlay Repaired desk new) → AreKept new notes'
pass_keeps time count held desk new notes notes' kept same same_notes passes none changes =
    subst (λ (ns : List Note). AreKept new ns) (sym same_notes)
    (are_kept notes held new kept
    (skip_follows time held new kept.bare count (subst (λ (d : Contents). Passes time count d.state new.state) same passes)
    (λ zero_is. none zero_is ∙ same) (λ some. subst (λ (d : Contents). ChangesInPlay Repaired d new) same (changes some))))

-- A note is put at the place of a key.
module _
    (desk : Contents) (notes : List Note) (facts : Holds desk.state) (count : length notes ≡ 512) (key : Key) (live : Live)
    (current : IsCurrent (board_of desk notes) key live) (note : Note) (own : note.serial ≡ key.serial)
    (now : note.epoch ≡ key.epoch) where
  at_now : note.epoch ≡ desk.epoch
  at_now = now ∙ current.epoch_is

  pub handed :
      (out : Bool) → note.vouched ≡ says is_vouched key.epoch key.serial (note_at notes key.place) → note.handed_out ≡ out
      → board_of desk (set notes key.place note) ≡ with_handed (board_of desk notes) key.serial out
  handed out as_before says_so =
      let same : note.vouched ≡ says is_vouched desk.epoch key.serial (note_at notes live.place) =
      as_before ∙ (λ i. says is_vouched (current.epoch_is i) key.serial (note_at notes (sym current.place_is i))) in
      subst (λ (p : ℕ). board_of desk (set notes p note) ≡ with_handed (board_of desk notes) key.serial out) current.place_is
      (λ i. record {
        desk = desk;
        vouched = put_same desk notes facts count key.serial live current.live_is note own at_now is_vouched same i;
        handed_out = put_as desk notes facts count key.serial live current.live_is note own at_now out is_handed_out says_so i;
      })

  pub told_of :
      note.handed_out ≡ says is_handed_out key.epoch key.serial (note_at notes key.place) → note.vouched ≡ true
      → board_of desk (set notes key.place note) ≡ with_vouched (board_of desk notes) key.serial
  told_of as_before says_so =
      let same : note.handed_out ≡ says is_handed_out desk.epoch key.serial (note_at notes live.place) =
      as_before ∙ (λ i. says is_handed_out (current.epoch_is i) key.serial (note_at notes (sym current.place_is i))) in
      subst (λ (p : ℕ). board_of desk (set notes p note) ≡ with_vouched (board_of desk notes) key.serial) current.place_is
      (λ i. record {
        desk = desk;
        vouched = put_as desk notes facts count key.serial live current.live_is note own at_now true is_vouched says_so i;
        handed_out = put_same desk notes facts count key.serial live current.live_is note own at_now is_handed_out same i;
      })

  pub still_kept : AreKept desk notes → AreKept desk (set notes key.place note)
  still_kept kept =
      subst (λ (p : ℕ). AreKept desk (set notes p note)) current.place_is
      (put_kept desk notes facts count key.serial live current.live_is note own at_now kept)

pub key_within :
    (desk : Contents) (notes : List Note) → Holds desk.state → (key : Key) → IsHeld (board_of desk notes) key → key.place < 512
key_within desk notes facts key held =
    let placed = (facts.live key.serial held.0 held.1.live_is).placed in
    let is = held.1.place_is in
    omega (arith, placed, is)
