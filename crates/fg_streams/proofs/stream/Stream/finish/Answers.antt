use Rattle.std.proofs.Common.{◌<◌, ◌^◌, length, sym, subst, arith}
use Rattle.std.proofs.lemmas.Result.{on_ok_weaker}
use Rattle.fg_streams.specs.Bursts.{times_of}
use Rattle.fg_streams.specs.Steps.{IsStreamOf, StreamState}
use Rattle.fg_streams.proofs.Summing.{count_pids, few_times, same_summary}
use Rattle.fg_streams.proofs.stream.Stream.finish.Goals as goal

pub finish-requires : goal.finish-requires
finish-requires c =
    let k = subst (λ (s : StreamState). IsStreamOf s c.requires.0) (sym c.self.view_is) c.requires.1 in
    let few : length (times_of c.requires.0) < 2 ^ 58 = few_times c.requires.0 c.self.inside.span k.span k.low c.requires.2 in
    record { few = (times_of c.requires.0, k.times, omega (arith, few)) }

pub returns : goal.returns
returns c = on_ok_weaker c.finish.result (λ ended arrivals h.
    let k = subst (λ (s : StreamState). IsStreamOf s arrivals) (sym c.self.view_is) h in
    let e = ended (times_of arrivals) k.times in
    same_summary _ _ k.span k.counts e.lengths e.longest k.pace (count_pids arrivals c.self.inside.marks.items k.marks)) c.finish.ensures
