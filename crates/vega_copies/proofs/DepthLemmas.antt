-- How deep the marks in a group are.
use Rattle.std.proofs.Common.{◌<◌, arith, rules}
use denote.Param.Weighed.{most}
use Rattle.vega_spec.specs.declared.spec.Group.{out-Group, size_is-Group}
use Rattle.vega_spec.specs.declared.spec.Group.TheFolds.{the_lemmas}
use Rattle.vega_spec.specs.declared.spec.VgMark.{VgMark, out-VgMark, size-VgMark, size_is-VgMark}
use Rattle.vega_copies.specs.inner.Outlined.{marks_in}

pub inside_smaller : (m : VgMark) → most size-VgMark (marks_in (out-Group (out-VgMark m).group)) < size-VgMark m
inside_smaller m = first_of (search (rules, the_lemmas), grind (arith, the_lemmas, size_is-Group, size_is-VgMark))
