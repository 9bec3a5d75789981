-- What a list holds, wherever its elements stand.
use Rattle.std.specs.Prelude.{List}
use Rattle.std.specs.Arc.{arc_slice_items}
use Rattle.shared_list.specs.declared.items.Items.{Items}

-- the elements in order
abbrev pub elements : {T : Type 0} → Items T → List T
elements (Items.Two items) = items
elements (Items.Own items) = items.items
elements (Items.Shared items mark) = arc_slice_items items
