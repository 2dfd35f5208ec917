-- Lemmas for the crates above.
pub use Rattle.tz_base.proofs.ForCallers.{run_again, run_splits}
pub use Rattle.tz_info.proofs.{
  ChangeLaws.{one_nearest},
  ChangeSearch.{stays},
  Equalities.{zone_exact},
  LeapOrder.{leap_times_answer},
  PosixLaws.{fault_or_zone as text_fault_or_zone, one_place as text_fault_place_once, one_posix_fault as text_fault_once},
  PosixLaws.{file_rule_fits, offset_fits, posix_zone_valid, refused_or_spelled as string_fault_or_rule},
  RuleLaws.{rule_year},
  TzFileLaws.{fault_once as file_fault_once, fault_or_zone as file_fault_or_zone, file_pieces},
  WallLaws.{wall_decided},
  ZoneLaws.{type_decided, type_error_number, type_listed, type_not_refused, type_once},
}
pub use Rattle.tz_search.proofs.FirstItems.{le_is, le_true}
