-- What the struct of a layer that passed questions 1 to 4 stands for.
use Rattle.grid.specs.Layer.{Layer, layer_of}
use Rattle.grid.specs.declared.sound.Layer as Struct

-- the layer with its sides and bitmap
abbrev pub plain : Struct.Layer → Layer
plain l = layer_of l.size l.bitmap.now
