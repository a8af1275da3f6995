use Rattle.std.proofs.Common.{◌≡◌, subst}
use Rattle.fg_words.specs.declared.Word.{Word}
use Rattle.fg_words.specs.Word.{IsMedia}
use Rattle.fg_peel.specs.declared.Slot.TheVariants.{Solved}
use Rattle.fg_buffer.proofs.BufferPuts.{place_within, are_still, media_still, published}
use Rattle.fg_buffer.proofs.playout_buffer.PlayoutBuffer.put_solved.Goals as goal

pub put_solved-requires : goal.put_solved-requires
put_solved-requires c =
    place_within c.self.inside.mark c.self.inside.entries c.args.self.now c.self.view_is c.self.invariant.0 c.args.position
    c.requires.ahead c.requires.near c.place_of-place.result c.place_of-place.ensures.ahead

pub returns : goal.returns
returns c =
    published c.self.inside.mark c.self.inside.entries c.args.self.now c.self.view_is c.self.invariant.0 c.args.position
    c.requires.ahead c.requires.near c.place_of-place.result c.place_of-place.ensures.ahead c.args.share _ c.put_solved.ensures c.requires.none

pub invariant_of-self : goal.invariant_of-self
invariant_of-self c = (
  are_still c.self.inside.mark c.self.inside.entries c.args.self.now c.self.view_is c.self.invariant.0 c.args.position
      c.requires.ahead c.requires.near c.place_of-place.result c.place_of-place.ensures.ahead (Solved c.args.share) _ c.put_solved.ensures,
  λ known.
      let told = c.stay_media-self-inside.ensures known in
      media_still c.self.inside.mark c.self.inside.entries c.args.self.now c.self.view_is c.self.invariant.0 c.args.position
      c.requires.ahead c.requires.near c.place_of-place.result c.place_of-place.ensures.ahead (Solved c.args.share) _ c.put_solved.ensures
      (c.self.invariant.1 told.0) (λ word is. let same : c.args.share ≡ word = cc in subst (λ (w : Word). IsMedia w) same told.1),
)
