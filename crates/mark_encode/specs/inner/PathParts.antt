-- Paths in the program.
use Rattle.mark_encode.specs.declared.paths.PassChannels.{PassChannels}
use Rattle.mark_encode.specs.declared.paths.PathChannels.{PathChannels}
use Rattle.mark_encode.specs.Paths.{PassValues, PathValues}
use Rattle.mark_encode.specs.inner.Scaled.{scaled_all}
use Rattle.mark_encode.specs.inner.Kinds.{look_values}

-- the values in the channels that say where a path passes along one direction
abbrev pub pass_values : PassChannels → PassValues
pass_values a = record { near = scaled_all a.near.values; middle = scaled_all a.middle.values; far = scaled_all a.far.values }

-- the values in the channels of a path
abbrev pub path_values : PathChannels → PathValues
path_values a = record {
  closed = a.closed;
  across = pass_values a.across;
  down = pass_values a.down;
  looks = look_values a.looks;
}
