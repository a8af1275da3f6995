-- What several plays show, one after another.
use Rattle.std.proofs.Common.{◌≡◌, List, ◌++◌, ap, ◌∙◌}
use Rattle.std.specs.List.{flat_map}
use Rattle.std.proofs.lemmas.List.Concat.{flat_map-append}
use Rattle.fg_playout.specs.Play.{Play, Shown}
use Rattle.fg_results.specs.Flow.{all_shown, shown_payload, lane_of}

pub all_shown_more : (one other : List Play) → all_shown (one ++ other) ≡ all_shown one ++ all_shown other
all_shown_more one other = flat_map-append (λ (play : Play). play.shown) one other

pub lane_more : (one other : List Play) → lane_of (one ++ other) ≡ lane_of one ++ lane_of other
lane_more one other =
    ap (λ (shown : List Shown). flat_map shown_payload shown) (all_shown_more one other)
    ∙ flat_map-append shown_payload (all_shown one) (all_shown other)
