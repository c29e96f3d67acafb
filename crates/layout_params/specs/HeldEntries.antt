-- Lines and entries as the code holds them.
use Rattle.std.specs.Prelude.{ℕ, List, map}
use Rattle.std.specs.Borrow.{Bor}
use Rattle.layout_params.specs.declared.entries.Value.{Value as HeldValue}
use Rattle.layout_params.specs.declared.entries.Value.TheVariants as held
use Rattle.layout_params.specs.declared.entries.Entry.{Entry as HeldEntry}
use Rattle.layout_params.specs.declared.draft.Draft.{Draft}
use Rattle.layout_params.specs.Views.{sizes_of}
use Rattle.layout_params.specs.ParameterLines.{Value, Number, Date, Entry}
use Rattle.layout_params.specs.Parameters.{Parameters}

abbrev pub value_held : HeldValue → Value
value_held (held.Number n) = Number n
value_held (held.Date text) = Date text.now

abbrev pub parts_held : Bor (List ℕ) × HeldValue → List ℕ × Value
parts_held parts = (parts.0.now, value_held parts.1)

abbrev pub entry_held : HeldEntry → Entry
entry_held e = record { line = e.line; name = e.name.now; value = value_held e.value }

abbrev pub entries_held : List HeldEntry → List Entry
entries_held entries = map entry_held entries

-- the parameters of a draft
abbrev pub drafted : Draft → Parameters
drafted d = record {
  settings = record {
    sizes = sizes_of d.sizes;
    function_flag = d.function_flag;
    mark_flag = d.mark_flag;
    pointer_flag = d.pointer_flag;
    string_title_flag = d.string_title_flag;
    title_flag = d.title_flag;
    stack_size = d.stack_size;
    dynamic_size = d.dynamic_size;
    bucket_count = d.bucket_count;
    date = d.date.now;
  };
  input_unit = d.input_unit;
  output_unit = d.output_unit;
  punch_unit = d.punch_unit;
}
