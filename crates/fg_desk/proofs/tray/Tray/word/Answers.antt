use Rattle.std.proofs.Common.{get_or, sym, ap, ◌∙◌}
use Rattle.fg_playout.specs.Shown.{Holding, Shown, nothing_shown}
use Rattle.fg_desk.proofs.TrayPlaces.{shown_at_place}
use Rattle.fg_desk.proofs.tray.Tray.word.Goals as goal

pub returns-then-i-self : goal.returns-then-i-self
returns-then-i-self c =
    let inside = c.self.inside in
    c.word.ensures
    ∙ ap (λ (s : Shown). s.word) (sym (shown_at_place inside.places.items inside.count c.args.i c.index.result.now c.if-i-self.true c.self.invariant.0 c.index.ensures))
    ∙ ap (λ (h : Holding). (get_or h.shown c.args.i nothing_shown).word) c.self.view_is
