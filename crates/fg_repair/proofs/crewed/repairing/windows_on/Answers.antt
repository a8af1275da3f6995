use Rattle.std.proofs.Common.{◌≡◌, ◌+◌, ◌∷◌, [], ◌++◌, length, sym, ap, ◌∙◌, arith, List, append_assoc}
use Rattle.std.proofs.lemmas.List.{length_push}
use Rattle.fg_playout.specs.State.{opening}
use Rattle.fg_board.specs.Actors.{desk_of}
use Rattle.fg_repair.specs.declared.crewed.board_window.BoardWindow.{BoardWindow}
use Rattle.fg_workers.specs.declared.post.Post.{Post}
use Rattle.fg_workers.specs.declared.post.Host.{Host}
use Rattle.fg_workers.specs.Crewed.{IsNewHost}
use Rattle.fg_workers.proofs.Crewing.{all_next, all_more, alike_next}
use Rattle.fg_repair.proofs.crewed.repairing.windows_on.Goals as goal

pub invariant_of-push : goal.invariant_of-push
invariant_of-push g c =
    let is = c.loop-host.invariant.rest ∙ ap (λ (xs : List Host). c.loop-host.yielded ++ xs) c.in-Some.ensures.steps.0 in
    let at : length c.loop-host.yielded ≡ c.len-i.result =
    omega (arith, c.loop-host.windows.ok.0, c.loop-host.invariant.count, c.len-i.ensures)
    in
    record {
      of_board = alike_next (λ (host : Host). host.admitter.seat.turn) (λ (post : Post). post.board.name) c.args.hosts.items
          c.args.posts.now c.loop-host.yielded c.in-Some.host _ c.len-i.result c.index-posts-i.result c.requires.hosts is at
          c.index-posts-i.is;
      holds_a_window = (all_next (IsNewHost c.requires.new.0) c.args.hosts.items c.loop-host.yielded c.in-Some.host _
          c.requires.new.1 is).tray;
    }

pub loop-host-preserved : goal.loop-host-preserved
loop-host-preserved g c =
    let is = c.loop-host.invariant.rest ∙ ap (λ (xs : List Host). c.loop-host.yielded ++ xs) c.in-Some.ensures.steps.0 in
    record {
      can = tt;
      ends = tt;
      count = ap length c.in_ok-push.ensures.items ∙ length_push c.loop-host.windows.items _
          ∙ ap (λ n. n + 1) c.loop-host.invariant.count ∙ sym (length_push c.loop-host.yielded c.in-Some.host);
      rest = is ∙ sym (append_assoc c.loop-host.yielded (c.in-Some.host ∷ []) _);
      new = λ playout all.
          all_more (λ (window : BoardWindow g.row.W.Denot g.row.G.Denot). desk_of window.admitter ≡ opening playout)
          c.loop-host.windows.items c.push.new.self.items _ c.in_ok-push.ensures.items
          (c.loop-host.invariant.new playout all)
          (all_next (IsNewHost playout) c.args.hosts.items c.loop-host.yielded c.in-Some.host _ all is).desk;
    }
