use Rattle.std.proofs.Common.{◌≡◌, ap, true}
use Rattle.std.proofs.Props.{props}
use Rattle.fg_shape.specs.declared.encoding.Settings.{Settings}
use Rattle.fg_shape.specs.Limits.{IsLayout}
use Rattle.fg_thin.specs.Drawn.{sample_layout, sample_settings}
use Rattle.fg_thin.proofs.drawing.sample_settings.Goals as goal

accepted_once : (x y : IsLayout 10 10 true) → x ≡ y
accepted_once x y = (let once : IsProp (IsLayout 10 10 true) = hlevel props in once x y)

settings_of : IsLayout 10 10 true → Settings
settings_of x = record sample_settings { layout = record sample_layout { accepted = x } }

pub returns : goal.returns
unfolding settings_of
returns c = ap settings_of (accepted_once _ sample_layout.accepted)
