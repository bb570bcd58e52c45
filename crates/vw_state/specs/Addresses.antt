-- What is known of an address, as the program holds it.
use Rattle.vw_state.specs.declared.memory.Address.{Address as Held}
use Rattle.vw_state.specs.declared.memory.Address.TheVariants as held
use Rattle.vw_values.specs.declared.value.Via.{Via}
use Rattle.vw_calls.specs.declared.entries.EntryRef.{EntryRef}
use Rattle.vw_domain.specs.Addresses.{Address, Frame, Heap, Globals, Image, Range, Entry, Unknown}

abbrev pub address_view : Held → Address
address_view (held.Frame c) = Frame c
address_view (held.Heap low high) = Heap low high
address_view (held.Globals low high) = Globals low high
address_view (held.Image a) = Image a
address_view (held.Range at scale k) = Range at scale k
address_view (held.Entry table tag disp via) = Entry table tag disp via
address_view held.Unknown = Unknown

-- a place in an entry of a table that a register tells
abbrev pub told_by : Via → EntryRef → Address
told_by via place = Entry place.table place.tag place.disp via
