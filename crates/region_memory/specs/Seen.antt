-- What the code's places stand for in the definition.
use Rattle.region_memory.specs.declared.region.Place.{Place}
use Rattle.region_memory.specs.declared.region.Place.TheVariants.{Code, Table, Arguments, Stack, Heap}
use Rattle.region_memory.specs.Regions.{Spot, InCode, InTable, InArguments, InStack, InHeap}

abbrev pub spot_of : Place → Spot
spot_of (Code byte) = InCode byte
spot_of (Table word) = InTable word
spot_of (Arguments word) = InArguments word
spot_of (Stack word) = InStack word
spot_of (Heap word) = InHeap word
