-- What the code's types stand for in the definition.
use Rattle.heap_terms.specs.Seen.{symbols_of}
use Rattle.image_load.specs.declared.load.Start.{Start}
use Rattle.image_load.specs.declared.load.Start.TheVariants as starts
use Rattle.image_load.specs.declared.load.Loaded.{Loaded}
use Rattle.image_load.specs.Loading.{Beginning, Undefined, HeapFull, Ready, Program}

abbrev pub beginning_seen : Start → Beginning
beginning_seen starts.Undefined = Undefined
beginning_seen starts.HeapFull = HeapFull
beginning_seen (starts.Ready at arguments free) = Ready at arguments free

abbrev pub loaded_seen : Loaded → Program
loaded_seen l = record { regions = l.region; symbols = symbols_of l.symbols; beginning = beginning_seen l.start }
