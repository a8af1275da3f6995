use Rattle.std.proofs.Common.{◌∙◌, ℕ, refl, subst, slice_index, arith}
use Rattle.std.proofs.lemmas.Result.{on_ok_weaker, on_err_weaker}
use Rattle.fg_flows.specs.Plan.{playout_of}
use Rattle.fg_trace.specs.Trace.{Record}
use Rattle.fg_prove.specs.Steps.{AdmitsDatagram, BreaksAtDatagram}
use Rattle.fg_prove.proofs.Taking.{taken_none, taken_more, taken_breaks, first_port, no_port, stays_within}
use Rattle.fg_prove.proofs.walk.ProvingTelling.tell.Goals as goal

pub take-requires : goal.take-requires
take-requires g c =
    let h = c.requires.told.3 in
    record { within = stays_within c.records_are_told.ensures.taking _ _ _ _ _ _ _ h.fits.playout (omega (arith, c.requires.told.2)) h.taken }

pub returns-in-Some-clause-told : goal.returns-in-Some-clause-told
returns-in-Some-clause-told g c =
    let plan = c.args.self.now.plan.now in
    let old = c.args.self.now.prover in
    let new = c.take.new.self in
    let flow = slice_index plan.table 0 in
    let kind = c.in-Some.kind in
    let r : Record = record { time = c.args.datagram.time; port = c.args.datagram.port; datagram = c.args.datagram.bytes.now } in
    let at = g.K.Sink.written c.args.out.now in
    let after = g.K.Sink.written c.take.new.out in
    on_ok_weaker c.take.result (λ admits records before h. record {
      fits = h.fits;
      one = h.one;
      flow_is = c.take.ensures.port ∙ h.flow_is;
      taken = taken_more c.desks_join.ensures.taken c.desks_join.ensures.one_taken (playout_of plan) flow kind r.time r.datagram records r old.desk.state new.desk.state
          before old.gaps.text.held at new.gaps.text.held after
          (subst (λ (flow : ℕ). AdmitsDatagram kind r.time r.datagram flow old.desk.state old.gaps.text.held at new.desk.state new.gaps.text.held after) h.flow_is admits)
          refl refl (first_port plan.table r.port c.in-Some.field-0-0 kind h.one c.in-Some.ensures.found) h.taken;
    }) c.take.ensures.takes

pub returns-in-Some-clause-part : goal.returns-in-Some-clause-part
returns-in-Some-clause-part g c =
    let plan = c.args.self.now.plan.now in
    let old = c.args.self.now.prover in
    let flow = slice_index plan.table 0 in
    let kind = c.in-Some.kind in
    let r : Record = record { time = c.args.datagram.time; port = c.args.datagram.port; datagram = c.args.datagram.bytes.now } in
    let laws = c.records_are_told.ensures in
    let at = g.K.Sink.written c.args.out.now in
    let after = g.K.Sink.written c.take.new.out in
    on_err_weaker c.take.result (λ breaks records later before h.
    taken_breaks laws.media laws.parity laws.mades laws.next (playout_of plan) flow kind r.time r.datagram records r old.desk.state before old.gaps.text.held at after
    (subst (λ (flow : ℕ). BreaksAtDatagram kind r.time r.datagram flow old.desk.state old.gaps.text.held at after) h.flow_is breaks)
    refl refl (first_port plan.table r.port c.in-Some.field-0-0 kind h.one c.in-Some.ensures.found) h.taken later) c.take.ensures.breaks

pub returns-in-None-clause-told : goal.returns-in-None-clause-told
returns-in-None-clause-told g c = λ records before h.
    let plan = c.args.self.now.plan.now in
    let old = c.args.self.now.prover in
    let r : Record = record { time = c.args.datagram.time; port = c.args.datagram.port; datagram = c.args.datagram.bytes.now } in
    record {
      fits = h.fits;
      one = h.one;
      flow_is = h.flow_is;
      taken = taken_none (playout_of plan) (slice_index plan.table 0) records r old.desk.state before old.gaps.text.held (g.K.Sink.written c.args.out.now)
          (no_port plan.table r.port r h.one refl c.in-None.ensures.none) h.taken;
    }
