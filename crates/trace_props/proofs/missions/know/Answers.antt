use Rattle.trace_props.proofs.missions.know.Goals as goal

pub returns : goal.returns
returns c = record {
  runs_up = c.runs_where_places_are_up.ensures;
  timed = c.phases_end_in_time.ensures;
  show = c.environments_show.ensures;
  losses = c.losses_show.ensures;
  by_row = c.reads_row_by_row.ensures;
  during = c.law_lies_during.ensures;
  initialised = c.law_lies_after_init.ensures;
  starts = c.start_lies_after_init.ensures;
  narrow = c.tables_narrow.ensures;
}
