-- Each run is worked out by the definitions themselves.
use Rattle.std.proofs.Common.{refl}
use Rattle.runs.proofs.bench_a_runs.Goals as goal

pub returns : goal.returns
returns c =
    record {
      plan_with_four_records = refl;
      plan_with_three_records = refl;
      measure_with_four_records = refl;
      need_within_four = refl;
      plan_out_of_reach = refl;
      plan_with_one_record = refl;
      need_within_three = refl;
      no_length_within_three = refl;
      plan_in_place = refl;
      need_in_place = refl;
      plan_without_records = refl;
      last_setting_allowed = refl;
      setting_past_the_last = refl;
      highest_bound_allowed = refl;
      bound_above_the_highest = refl;
      plan_around_a_tag = refl;
    }
