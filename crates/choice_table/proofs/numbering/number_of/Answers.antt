use Rattle.choice_table.proofs.Inverses.{env_of-number_of}
use Rattle.choice_table.proofs.numbering.number_of.Goals as goal

pub returns-clause-back : goal.returns-clause-back
returns-clause-back c = λ belongs.
    rw (c.from.ensures, c.others-down.ensures.value, c.count_procs.ensures.value, c.count_combinations.ensures.value, c.number_of_values.ensures.value)
    (env_of-number_of c.args.spec.now c.count_combinations.ensures.known c.count_combinations.ensures.few c.args.env.now belongs)
