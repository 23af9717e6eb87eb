use Rattle.time_calc.proofs.CalendarLemmas.{years_follow, months_make_the_year, date_of_its_day, days_have_dates, day_of_its_date}
use Rattle.time_calc.proofs.laws.laws_of_the_calendar.Goals as goal

pub returns : goal.returns
returns c = record {
  years_follow = years_follow;
  months_make_the_year = months_make_the_year;
  date_of_its_day = date_of_its_day;
  days_have_dates = days_have_dates;
  day_of_its_date = day_of_its_date;
}
