use Rattle.std.proofs.Common.{◌≡◌, List, take, get_or, ap, ◌∙◌, arith}
use Rattle.std.proofs.lemmas.List.{take_all}
use Rattle.fg_plain.specs.declared.run.ShownWord.{ShownWord}
use Rattle.fg_playout.specs.Play.{Shown, nothing_shown}
use Rattle.fg_plain.proofs.PlainRuns.{one_more_shown, same_shown}
use Rattle.fg_plain.proofs.run.copied.Goals as goal

pub loop-i-preserved : goal.loop-i-preserved
loop-i-preserved c =
    let word : ShownWord = record { word = c.copied.result; repaired = c.repaired.result } in
    one_more_shown c.loop-i.shown.items c.push.new.self.items word c.args.tray.now.shown c.loop-i.i (omega arith) c.loop-i.invariant
    (same_shown c.copied.result c.repaired.result (get_or c.args.tray.now.shown c.loop-i.i nothing_shown) (c.copied.ensures ∙ c.word.ensures) c.repaired.ensures.value) c.in_ok-push.ensures.items

pub returns : goal.returns
returns c =
    let all : take c.loop-i.i c.args.tray.now.shown ≡ c.args.tray.now.shown = take_all c.loop-i.i c.args.tray.now.shown (omega arith) in
    ap (λ (shown : List Shown). record { first = c.args.played.first; shown = shown; outcome = c.args.played.verdict }) (c.loop-i.invariant ∙ all)
