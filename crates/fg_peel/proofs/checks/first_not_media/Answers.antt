use Rattle.std.proofs.Common.{ℕ, get_or, subst, sym, ◌∙◌, ⊎_elim, arith}
use Rattle.std.proofs.lemmas.Bool.{cases_eq, false≢true}
use Rattle.fg_peel.specs.declared.Slot.TheVariants.{Empty}
use Rattle.fg_peel.specs.Recovery.{RecoversMedia}
use Rattle.fg_peel.proofs.Wrong.{wrong_first, wrong_none}
use Rattle.fg_peel.proofs.checks.first_not_media.Goals as goal

pub loop-i-preserved : goal.loop-i-preserved
loop-i-preserved g c =
    let slots = g.E.EntryRow.slots c.args.span.now.entries.now in
    let here : RecoversMedia (get_or slots c.loop-i.i Empty) = c.recovers_media.ensures.0 c.if-not-recovers_media.false in
    λ k less. ⊎_elim
    (λ same. let P : ℕ → Type 0 = λ n. RecoversMedia (get_or slots n Empty) in subst P (sym same) here)
    (λ other. c.loop-i.invariant k (omega (arith, other)))
    (cases_eq k c.loop-i.i)

pub returns-then-not-recovers_media-clause-least : goal.returns-then-not-recovers_media-clause-least
returns-then-not-recovers_media-clause-least g c =
    wrong_first c.args.span.now.start (g.E.EntryRow.slots c.args.span.now.entries.now) c.loop-i.i
    (λ right. false≢true (sym c.if-not-recovers_media.true ∙ c.recovers_media.ensures.1 right))
    c.loop-i.invariant

pub returns-clause-none : goal.returns-clause-none
returns-clause-none g c =
    wrong_none c.args.span.now.start (g.E.EntryRow.slots c.args.span.now.entries.now)
    (λ k less. c.loop-i.invariant k (omega (arith, less)))

pub returns-then-all_media-clause-none : goal.returns-then-all_media-clause-none
returns-then-all_media-clause-none g c = c.requires.media c.if-all_media.true
