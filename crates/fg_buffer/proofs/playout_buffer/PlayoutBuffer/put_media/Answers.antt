use Rattle.fg_peel.specs.declared.Slot.TheVariants.{Media}
use Rattle.fg_buffer.proofs.BufferPuts.{place_within, are_still, media_still, received}
use Rattle.fg_buffer.proofs.playout_buffer.PlayoutBuffer.put_media.Goals as goal

pub put_media-requires : goal.put_media-requires
put_media-requires c =
    place_within c.self.inside.mark c.self.inside.entries c.args.self.now c.self.view_is c.self.invariant.0 c.args.position
    c.requires.ahead c.requires.near c.place_of-place.result c.place_of-place.ensures.ahead

pub invariant_of-self : goal.invariant_of-self
invariant_of-self c = (
  are_still c.self.inside.mark c.self.inside.entries c.args.self.now c.self.view_is c.self.invariant.0 c.args.position
      c.requires.ahead c.requires.near c.place_of-place.result c.place_of-place.ensures.ahead (Media c.args.share) _ c.put_media.ensures,
  λ known.
      media_still c.self.inside.mark c.self.inside.entries c.args.self.now c.self.view_is c.self.invariant.0 c.args.position
      c.requires.ahead c.requires.near c.place_of-place.result c.place_of-place.ensures.ahead (Media c.args.share) _ c.put_media.ensures
      (c.self.invariant.1 known) (λ word is. absurd (cc)),
)

pub returns : goal.returns
returns c =
    received c.self.inside.mark c.self.inside.entries c.args.self.now c.self.view_is c.self.invariant.0 c.args.position
    c.requires.ahead c.requires.near c.place_of-place.result c.place_of-place.ensures.ahead c.args.share _ c.put_media.ensures
