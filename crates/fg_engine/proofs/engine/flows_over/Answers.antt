use Rattle.std.proofs.Common.{◌≡◌, ◌+◌, ◌<◌, ◌∙◌, length, get_or, ap, sym, rules}
use Rattle.std.proofs.lemmas.List.{length_push}
use Rattle.std.proofs.lemmas.Iterator.Adapters.{YieldsList-from_vec}
use Rattle.std.proofs.lemmas.Iterator.Consumers.{YieldsList-turn}
use Rattle.fg_flows.specs.Plan.{playout_of}
use Rattle.fg_playout.specs.State.{opening}
use Rattle.fg_engine.proofs.Standing.{new_more}
use Rattle.fg_engine.proofs.engine.flows_over.Goals as goal

pub loop-window-preserved : goal.loop-window-preserved
loop-window-preserved g c =
    let plan = c.args.plan.now in
    let windows = c.args.windows.items in
    let now = c.loop-window in
    let turn : (length now.yielded < length windows) × (c.in-Some.window ≡ get_or windows (length now.yielded) c.in-Some.window) =
    YieldsList-turn (YieldsList-from_vec {s = c.into_iter-window-iterator.result} windows (search rules) (search rules))
    now.yielded now.window-iterator now.yielded_by c.next.result c.next.new.self c.in-Some.window c.in-Some.is c.next.ensures.steps in
    let empty : g.D.WindowState.state c.in-Some.window ≡ opening (playout_of plan) =
    ap g.D.WindowState.state turn.1 ∙ c.requires.empty (length now.yielded) c.in-Some.window turn.0 in
    record {
      long =
          ap length c.in_ok-push.ensures.items
          ∙ length_push now.flows.items c.new.result
          ∙ ap (λ n. n + 1) now.invariant.long
          ∙ sym (length_push now.yielded c.in-Some.window);
      each = new_more plan now.flows.items c.push.new.self.items c.len-in-loop-window.result c.port-port.result c.new.result c.in_ok-push.ensures.items
          (c.len-in-loop-window.ensures ∙ now.flows.ok.0) c.port-port.ensures (c.new.ensures (playout_of plan) empty) now.invariant.each;
    }
