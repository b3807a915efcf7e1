use Rattle.std.proofs.Common.{◌≡◌, drop}
use Rattle.scram_types.specs.Lookups.{opening_env}
use Rattle.choice_table.specs.Environments.{IsEnv}
use Rattle.spec_forms.specs.choice_forms.Choosing.{env_after_all}
use Rattle.spec_forms.proofs.choice_forms.choosing.env_after_all.Given as goal

abbrev pub invariant-loop-word : goal.invariant-loop-word
invariant-loop-word l = record {
  rest : env_after_all l.spec l.env (drop l.word-index l.state) ≡ env_after_all l.spec (opening_env l.spec) l.state;
  belongs : IsEnv l.spec l.env;
}
