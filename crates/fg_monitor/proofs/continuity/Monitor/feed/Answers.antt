use Rattle.std.proofs.Common.{◌≡◌, ◌≢◌, ◌∙◌, ◌<◌, ℕ, Option, None, List, length, get_or, refl, subst, sym, rules, arith}
use Rattle.std.proofs.lemmas.Bool.{false≢true}
use Rattle.std.proofs.lemmas.List.{get_or_read}
use Rattle.fg_ts.specs.Fields.{null_pid, pid_of}
use Rattle.fg_monitor.specs.declared.continuity.Last.{Last}
use Rattle.fg_monitor.specs.Kept.{HasSeen, MonitorState}
use Rattle.fg_monitor.proofs.Kept.{kept_before, seen_more, seen_null, tells}
use Rattle.fg_monitor.proofs.continuity.Monitor.feed.Goals as goal
use Rattle.fg_monitor.proofs.continuity.Monitor.feed.Goals.{After-kept_of-now}

pub returns-then-null_packet-clause-seen : goal.returns-then-null_packet-clause-seen
returns-then-null_packet-clause-seen c = λ packets h.
    let null : pid_of c.args.packet.now ≡ null_pid = search rules in
    seen_null (record { fed = c.self.inside.fed; lasts = c.self.inside.lasts.items }) _ packets c.args.packet.now
    (subst (λ (m : MonitorState). HasSeen m packets) (sym c.self.view_is) h) refl null

-- What is known of a packet that isn't a null packet.
module _ (c : After-kept_of-now) where
  abbrev lasts : List (Option Last)
  lasts = c.self.inside.lasts.items

  is : pid_of c.args.packet.now ≡ c.from-place.result
  is = sym (c.from-place.ensures ∙ c.pid.ensures)

  there : c.from-place.result < length lasts
  there = search rules

  kept : c.index-before.result.now ≡ get_or lasts c.from-place.result None
  kept = get_or_read lasts c.from-place.result c.index-before.result.now there c.index-before.ensures None

  seen : (packets : List (List ℕ)) → HasSeen c.args.self.now packets → HasSeen (record { fed = c.self.inside.fed; lasts = lasts }) packets
  seen packets h = subst (λ (m : MonitorState). HasSeen m packets) (sym c.self.view_is) h

pub returns-clause-tells : goal.returns-clause-tells
returns-clause-tells c = λ packets h.
    let here = (goal.at.returns-clause-tells c).After-kept_of-now in
    let fed = seen here packets h in
    let counted : pid_of c.args.packet.now ≢ null_pid = λ null. false≢true (sym c.if-null_packet.false ∙ c.null_packet.ensures.1 null) in
    let within : c.from-place.result < null_pid = omega (arith, there here, c.self.invariant, is here, counted) in
    tells packets c.args.packet.now _ c.self.inside.fed c.index-before.result.now c.break_of.result (is here)
    (kept_before _ c.from-place.result packets c.index-before.result.now fed within (kept here)) counted fed.fed c.break_of.ensures

pub returns-clause-seen : goal.returns-clause-seen
returns-clause-seen c = λ packets h.
    let here = (goal.at.returns-clause-seen c).After-kept_of-now in
    seen_more (record { fed = c.self.inside.fed; lasts = lasts here }) _ c.from-place.result packets c.args.packet.now c.index-before.result.now c.kept_of-now.result
    (seen here packets h) refl (there here) (is here) (kept here)
    c.kept_of-now.ensures.counter c.kept_of-now.ensures.payload c.kept_of-now.ensures.first c.kept_of-now.ensures.repeat
