-- The groups of lines: which of the definitions' groups each of the code's is. Assumes nothing.
use Rattle.model.specs.Text.{Group as TextGroup, chosen_pins, missing_pins, closed_tiles, own_ds, laid_sides}
use Rattle.line.specs.declared.group.Group.{Group}
use Rattle.line.specs.declared.group.Group.TheVariants.{Chosen, Missing, Closed, Own, Laid}

abbrev pub text_group : Group → TextGroup
text_group Chosen = chosen_pins
text_group Missing = missing_pins
text_group Closed = closed_tiles
text_group Own = own_ds
text_group Laid = laid_sides
