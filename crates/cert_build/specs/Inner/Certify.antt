-- The certificate that is made, and when there is none: definitions that only contracts inside the
-- crate cite.
use Rattle.response.specs.declared.choice.WindowError.{WindowError}
use Rattle.response.specs.declared.choice.WindowError.TheVariants as window
use Rattle.cert_build.specs.declared.error.BuildError.{BuildError}
use Rattle.cert_build.specs.declared.error.BuildError.TheVariants.{Memory, Unschedulable}

-- the error of a certificate without windows
abbrev pub window_build_error : WindowError → BuildError
window_build_error window.Memory = Memory
window_build_error (window.Unschedulable t) = Unschedulable t
