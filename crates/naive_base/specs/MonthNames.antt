-- The months by name.
use Rattle.std.specs.Prelude.{ℕ, List, codes}
use Rattle.naive_base.specs.declared.month.Month.{Month}
use Rattle.naive_base.specs.declared.month.Month.TheVariants.{January, February, March, April, May, June, July, August, September, October, November, December}

-- the number of a month, 1 for January to 12
abbrev pub number_of_month : Month → ℕ
number_of_month January = 1
number_of_month February = 2
number_of_month March = 3
number_of_month April = 4
number_of_month May = 5
number_of_month June = 6
number_of_month July = 7
number_of_month August = 8
number_of_month September = 9
number_of_month October = 10
number_of_month November = 11
number_of_month December = 12

-- the month's name, which is the text of its `Display`
abbrev pub month_name : Month → List ℕ
month_name January = codes "January"
month_name February = codes "February"
month_name March = codes "March"
month_name April = codes "April"
month_name May = codes "May"
month_name June = codes "June"
month_name July = codes "July"
month_name August = codes "August"
month_name September = codes "September"
month_name October = codes "October"
month_name November = codes "November"
month_name December = codes "December"
