use Rattle.fixed_num.proofs.Numerals.{reads_one, front_is_spelled, spelled_is_front}
use Rattle.fixed_num.proofs.RoundTripLemmas.{written_is_read}
use Rattle.fixed_num.proofs.laws.laws_of_decimals.Goals as goal

pub returns : goal.returns
returns c = record {
  written_is_read = written_is_read;
  one_value = reads_one;
  front_is_spelled = front_is_spelled;
  spelled_is_front = spelled_is_front;
}
