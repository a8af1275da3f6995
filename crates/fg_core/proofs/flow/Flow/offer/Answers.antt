use Rattle.std.proofs.Common.{◌≡◌, sym, ap, subst, ◌∙◌, None}
use Rattle.fg_peel.proofs.Options.{none_of_copied}
use Rattle.fg_desk.specs.Contents.{Contents, CanFill, IsLiveAt, known_in, filled}
use Rattle.fg_core.specs.Board.{BoardState, IsHeld, with_word}
use Rattle.fg_core.specs.Flow.{board_of}
use Rattle.fg_core.proofs.Holding.{desk_of, notes_of}
use Rattle.fg_core.proofs.flow.Flow.offer.Goals as goal

pub fill-requires : goal.fill-requires
fill-requires c =
    let now : BoardState = c.args.self.now in
    let desk_is = ap (λ (b : BoardState). b.desk) c.self.view_is in
    let held : IsHeld now c.args.key = c.holds.ensures.0 c.if-not-holds.false in
    let none : known_in now.desk c.args.slot ≡ None =
    ap (λ (d : Contents). known_in d c.args.slot) (sym (desk_of c.deref.ensures ∙ desk_is))
    ∙ none_of_copied _ c.word.result c.word.ensures (sym c.is_some.ensures ∙ c.if-is_some.false) in
    subst (λ (d : Contents). IsLiveAt d.state c.args.key.place (λ equation. CanFill d equation c.args.slot c.args.share))
    (sym (desk_of c.deref_mut.ensures.value ∙ desk_is))
    (c.args.key.serial, held.0, held.1.live_is, held.1.place_is, c.requires.follows held.0 held.1 none)

pub returns : goal.returns
returns c =
    let f = c.self.inside in
    let now : BoardState = c.args.self.now in
    let desk_is = ap (λ (b : BoardState). b.desk) c.self.view_is in (
      c.holds.ensures.0 c.if-not-holds.false,
      ap (λ (d : Contents). known_in d c.args.slot) (sym (desk_of c.deref.ensures ∙ desk_is))
          ∙ none_of_copied _ c.word.result c.word.ensures (sym c.is_some.ensures ∙ c.if-is_some.false),
      (λ i. board_of
          ((c.fill.ensures ∙ ap (λ (d : Contents). filled d c.args.slot c.args.share) (desk_of c.deref_mut.ensures.value)) i)
          (notes_of c.deref_mut.ensures.value i))
          ∙ ap (λ (b : BoardState). with_word b c.args.slot c.args.share) c.self.view_is,
    )
