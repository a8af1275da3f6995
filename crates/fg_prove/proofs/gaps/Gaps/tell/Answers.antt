use Rattle.std.proofs.Common.{◌≡◌, true, refl}
use Rattle.std.proofs.lemmas.Result.{on_ok_weaker, on_err_weaker}
use Rattle.fg_prove.specs.Steps.{whole, gap, unwritten}
use Rattle.fg_prove.proofs.Playing.{fails}
use Rattle.fg_prove.proofs.gaps.Gaps.tell.Goals as goal

pub returns-then-not-shows_a_loss-clause-tells : goal.returns-then-not-shows_a_loss-clause-tells
returns-then-not-shows_a_loss-clause-tells g c desk found none =
    whole (fails _ c.shows_a_loss.result c.if-not-shows_a_loss.true (c.shows_a_loss.ensures.loss desk found none).1) (record { held_is = refl; written = refl })

pub returns-clause-tells : goal.returns-clause-tells
returns-clause-tells g c =
    let is : c.shows_a_loss.result ≡ true = c.if-not-shows_a_loss.false in
    on_ok_weaker c.add.result (λ sent desk found none.
    (let both = (c.shows_a_loss.ensures.loss desk found none).0 is in
    gap c.in_ok-case.case both.0 both.1 (c.in_ok-case.ensures desk (found (c.shows_a_loss.ensures.looked is))) sent)) c.add.ensures.sent

pub returns-clause-breaks : goal.returns-clause-breaks
returns-clause-breaks g c =
    let is : c.shows_a_loss.result ≡ true = c.if-not-shows_a_loss.false in
    on_err_weaker c.add.result (λ part desk found none.
    (let both = (c.shows_a_loss.ensures.loss desk found none).0 is in
    unwritten c.in_ok-case.case both.0 both.1 (c.in_ok-case.ensures desk (found (c.shows_a_loss.ensures.looked is))) part)) c.add.ensures.part

pub found-requires-clause-found : goal.found-requires-clause-found
found-requires-clause-found g c = c.requires.found (c.shows_a_loss.ensures.looked c.if-not-shows_a_loss.false)
