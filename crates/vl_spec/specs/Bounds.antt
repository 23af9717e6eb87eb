-- The bounds of numbers, in millionths.
use Rattle.std.specs.Prelude.{ℤ, pos, neg_ℤ, ◌*◌}
use Rattle.fixed_num.specs.Number.{limit, million}

-- the least number in range
abbrev pub least_number : ℤ
least_number = neg_ℤ (pos limit)

-- the greatest number in range
abbrev pub most_number : ℤ
most_number = pos limit

-- the least number over 0
abbrev pub over_zero : ℤ
over_zero = pos 1

-- the greatest `padding` of a picture and `spacing`; the least is 0
abbrev pub most_space : ℤ
most_space = pos (1000 * million)

-- the greatest `opacity`, and padding of a scale; the least is 0
abbrev pub most_share : ℤ
most_share = pos million

-- the least of `columns`, `fontSize`, `maxbins` and `tickCount`
abbrev pub least_count : ℤ
least_count = pos million

-- the greatest of `columns`, `fontSize` and `maxbins`
abbrev pub most_count : ℤ
most_count = pos (1000 * million)

-- the greatest `tickCount`
abbrev pub most_ticks : ℤ
most_ticks = pos (100 * million)

-- the greatest `size`, `strokeWidth` and number in a `range`; the least is 0
abbrev pub most_look : ℤ
most_look = pos (1000000 * million)

-- the least `dx` and `dy`
abbrev pub least_shift : ℤ
least_shift = neg_ℤ (pos (1000000 * million))

-- the greatest `dx` and `dy`
abbrev pub most_shift : ℤ
most_shift = pos (1000000 * million)

-- the greatest `width` and `height`, which are over 0
abbrev pub most_size : ℤ
most_size = pos (10000 * million)

-- the greatest step of a size, which is over 0
abbrev pub most_step : ℤ
most_step = pos (1000 * million)
