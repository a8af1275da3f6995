use Rattle.std.proofs.Common.{◌≡◌, [], Option, Some, None, true, false, not, is_some, refl, ap, ◌∙◌}
use Rattle.std.specs.Prelude.{option_map}
use Rattle.fg_playout.specs.State.{State}
use Rattle.fg_playout.specs.Admission.{counted}
use Rattle.fg_playout.specs.Play.{Play, HasMore, Flushes}
use Rattle.fg_playout.specs.Run.{by_flush}
use Rattle.fg_playout.proofs.Joining.{ready_after_plays}
use Rattle.fg_desk.specs.declared.desk.Played.{Played}
use Rattle.fg_desk_tests.proofs.tests.script.is_flushed_for.Goals as goal

none_left :
    (old new : State) (played : Option Played) (play_of : Played → Play) → is_some played ≡ false
    → Flushes old (option_map play_of played) new → (¬ HasMore old) × (new ≡ counted old)
none_left old new None play_of none flushes = flushes
none_left old new (Some played) play_of none flushes = absurd (cc)

pub returns-then-room : goal.returns-then-room
returns-then-room c is fresh more =
    let yes : c.is_none.result ≡ true = is in
    let none = none_left c.args.desk.now.state c.flush_step_in_place.new.self.state c.flush_step_in_place.result _
    (c.is_none.ensures ∙ ap not yes) c.flush_step_in_place.ensures.flushes in
    (ready_after_plays c.args.desk.now.state c.flush_step_in_place.new.self.state 0 c.args.ssrc []
    (by_flush c.args.desk.now.state (c.fresh.ensures.0 c.if-not-fresh.false) (none.0, refl) none.1)).1 fresh more
