-- What words ask for, as the program holds it. No public clause cites this.
use Rattle.chart_run.specs.declared.words.Asked.{Asked as Held}
use Rattle.chart_run.specs.declared.words.Asked.TheVariants as held
use Rattle.chart_run.specs.Words.{Ask, Render, Play, Compile}

abbrev pub seen_ask : Held → Ask
seen_ask (held.Render name) = Render name.now
seen_ask (held.Play name) = Play name.now
seen_ask (held.Compile name) = Compile name.now
