-- The keys of a platform, in one order for both versions, are those of each version.
use Rattle.std.proofs.Common.{◌≡◌, List, ℕ, refl}
use Rattle.serde_json.specs.Data.{Members}
use Rattle.cert_model.specs.declared.version.Version.{Version}
use Rattle.cert_model.specs.declared.version.Version.TheVariants.{First, Second}
use Rattle.cert_model.specs.Inner.Platforms.{platform_keys}
use Rattle.cert_model.specs.Reading.{platform_at, first_platform, second_platform}

pub one_order : (version : Version) (path : List ℕ) (ms : Members)
    → platform_keys version path ms ≡ platform_at version path ms
unfolding platform_keys first_platform second_platform
one_order First path ms = refl
one_order Second path ms = refl
