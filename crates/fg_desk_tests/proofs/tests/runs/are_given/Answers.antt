use Rattle.std.proofs.Common.{[], List, get_or, take, sym, subst}
use Rattle.std.specs.List.{All}
use Rattle.std.proofs.lemmas.List.{take_more, take_all}
use Rattle.std.proofs.lemmas.List.Elements.{All-push}
use Rattle.fg_plain.specs.declared.run.Datagram.{Datagram}
use Rattle.fg_plain.specs.declared.run.Datagram.TheVariants as datagram
use Rattle.fg_plain.specs.Datagrams.{IsGiven}
use Rattle.fg_desk_tests.proofs.tests.runs.are_given.Goals as goal

abbrev no_datagram : Datagram
no_datagram = datagram.Media 0 0 0 (record { pt = 0; ts = 0; len = 0; bytes = [] })

pub loop-datagram-preserved : goal.loop-datagram-preserved
loop-datagram-preserved c =
    let i = c.loop-datagram.datagram-index in
    let datagrams = c.args.datagrams.now in
    subst (λ (ds : List Datagram). All IsGiven ds) (sym (take_more datagrams i no_datagram c.loop-datagram-test.true))
    (All-push IsGiven (take i datagrams) (get_or datagrams i no_datagram) c.loop-datagram.invariant
    (c.is_given.ensures.0 c.if-not-is_given.false))

pub returns : goal.returns
returns c _ =
    subst (λ (ds : List Datagram). All IsGiven ds) (take_all c.loop-datagram.datagram-index c.args.datagrams.now c.loop-datagram-test.false)
    c.loop-datagram.invariant
