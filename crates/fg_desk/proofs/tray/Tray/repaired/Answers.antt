use Rattle.std.proofs.Common.{get_or, IsSome, IsTrue, sym, ap, subst, ◌∙◌}
use Rattle.fg_playout.specs.Shown.{Holding, Shown, nothing_shown}
use Rattle.fg_desk.proofs.TrayPlaces.{shown_at_place, place_is_shown}
use Rattle.fg_desk.proofs.tray.Tray.repaired.Goals as goal

pub returns-then-i-self-clause-value : goal.returns-then-i-self-clause-value
returns-then-i-self-clause-value c =
    let inside = c.self.inside in
    ap (λ (s : Shown). s.repaired) (sym (shown_at_place inside.places.items inside.count c.args.i c.index.result.now c.if-i-self.true c.self.invariant.0 c.index.ensures))
    ∙ ap (λ (h : Holding). (get_or h.shown c.args.i nothing_shown).repaired) c.self.view_is

pub returns-then-i-self-clause-word : goal.returns-then-i-self-clause-word
returns-then-i-self-clause-word c =
    let inside = c.self.inside in
    let shown = place_is_shown inside.places.items inside.count c.args.i c.if-i-self.true c.self.invariant.0 in
    λ repaired.
    subst
    (λ (h : Holding). IsTrue (get_or h.shown c.args.i nothing_shown).repaired → IsSome (get_or h.shown c.args.i nothing_shown).word)
    c.self.view_is (c.self.invariant.1 c.args.i nothing_shown shown) (sym (returns-then-i-self-clause-value c) ∙ repaired)
