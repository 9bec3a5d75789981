-- Which tells of a kernel narrow a box.
use Rattle.std.specs.Prelude.{List}
use Rattle.interval.specs.Boxes.{Bounds}
use Rattle.tells.specs.declared.tell.Tell.{Tell}
use Rattle.guarded_tell.specs.declared.kernel.Kernel.{Kernel}
use Rattle.guarded_tell.specs.Kernels.{tells}
use Rattle.tell_laws.specs.Narrowing.{narrowing}

-- the tells of the kernel that narrow the box, in order
abbrev pub narrowing_tells : Kernel → Bounds → List Tell
narrowing_tells k b = narrowing b (tells k b)
