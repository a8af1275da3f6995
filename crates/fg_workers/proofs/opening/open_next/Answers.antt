use Rattle.std.proofs.Common.{◌≡◌, length, map, sym, ap, ◌∙◌, arith, List}
use Rattle.std.proofs.lemmas.List.{length_push}
use Rattle.std.proofs.lemmas.Result.{on_ok_weaker}
use Rattle.fg_shape.specs.Playout.{Playout}
use Rattle.fg_board.specs.Actors.{AdmitterState}
use Rattle.fg_workers.specs.declared.post.Post.{Post}
use Rattle.fg_workers.specs.declared.post.Host.{Host}
use Rattle.fg_workers.specs.Crewed.{IsNewHost, HasSeats, HasNoPass}
use Rattle.fg_workers.proofs.Crewing.{all_more, alike_more, new_desk}
use Rattle.fg_workers.proofs.opening.open_next.Goals as goal

pub returns : goal.returns
returns c = on_ok_weaker c.add_post.result (λ added.
    let crew = c.args.crew.now in
    let post : Post = added.0 in
    let posted = added.1 in
    let added_host = c.in_ok-add_host.ensures in
    let host : Host = added_host.0 in
    let hosted = added_host.1 in
    let admitter : AdmitterState = c.in_ok-board.admitter in
    let board = c.in_ok-board.ensures.admitter in
    let own : host.admitter ≡ admitter = added_host.2 in
    let playout : Playout = record { window = c.args.plan.now.window; depth = c.args.plan.now.depth; hold = c.args.plan.now.hold } in
    let turn = ap (λ (a : AdmitterState). a.seat.turn) (own ∙ board) ∙ sym (ap (λ b. b.name) added.2) in
    let left = ap (λ (a : AdmitterState). a.seat.left) (own ∙ board) in
    let is : host.admitter.playout ≡ playout = ap (λ (a : AdmitterState). a.playout) (own ∙ board) in
    let wide = ap (λ (p : Playout). p.window) is in
    record {
      posts = ap length posted ∙ length_push crew.posts.items post;
      hosts = ap (λ (hosts : List Host). map (λ host. host.admitter.seat.turn) hosts) hosted
          ∙ alike_more (λ (host : Host). host.admitter.seat.turn) (λ (post : Post). post.board.name) crew.hosts.items
          crew.posts.items host post c.requires.crew.hosts turn
          ∙ sym (ap (λ (posts : List Post). map (λ post. post.board.name) posts) posted);
      new_hosts = all_more (IsNewHost playout) crew.hosts.items c.add_host.new.hosts.items host hosted c.requires.crew.new_hosts
          (record { desk = new_desk host.admitter playout left is; tray = omega (arith, wide, added_host.3) });
      seats = all_more HasSeats crew.posts.items c.add_post.new.posts.items post posted c.requires.crew.seats
          (omega (arith, c.in_ok-board.ensures.seats, ap (λ b. b.seats) added.2));
      no_passes = all_more HasNoPass crew.hosts.items c.add_host.new.hosts.items host hosted c.requires.crew.no_passes
          (ap (λ (a : AdmitterState). a.seat.made) (own ∙ board));
      workers = c.requires.crew.workers;
    }) c.add_post.ensures
