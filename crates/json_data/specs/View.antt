-- The data that a document, a value in it and what is left of an array stand for.
use Rattle.serde_json.specs.Data.{Data, Items}
use Rattle.json_data.specs.declared.document.Document.{Document}
use Rattle.json_data.specs.declared.element.Element.{Element}
use Rattle.json_data.specs.declared.elements.Elements.{Elements}
use Rattle.json_data.specs.Nodes.{value_at, items_at, entries}

abbrev pub data_of : Document → Data
data_of d = value_at (entries d.texts d.nodes.items)

abbrev pub view : Element → Data
view e = value_at (entries e.texts.now e.nodes.now)

abbrev pub items_view : Elements → Items
items_view e = items_at e.left (entries e.texts.now e.nodes.now)
