use Rattle.std.proofs.Common.{sym}
use Rattle.spec_reading.proofs.Specs.{joined_fits, joined_writable}
use Rattle.spec_reading.proofs.documents.join.Goals as goal

pub invariant_of-result : goal.invariant_of-result
invariant_of-result c =
    rw (c.of.ensures, c.into_items.ensures, c.of-2.ensures, c.into_items-2.ensures, c.of-3.ensures, c.into_items-3.ensures, c.of-4.ensures, c.into_items-4.ensures)
    (joined_fits c.args.vocabulary _ c.args.rest (sym c.vocabulary.view_is) c.vocabulary.invariant c.requires.fits)

pub returns-clause-writable : goal.returns-clause-writable
returns-clause-writable c =
    rw (c.of.ensures, c.into_items.ensures, c.of-2.ensures, c.into_items-2.ensures, c.of-3.ensures, c.into_items-3.ensures, c.of-4.ensures, c.into_items-4.ensures)
    (joined_writable c.args.vocabulary _ c.args.rest (sym c.vocabulary.view_is) c.vocabulary.invariant c.requires.fits)
