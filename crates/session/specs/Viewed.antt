-- What a session of the program stands for.
use Rattle.session.specs.declared.session.Session.TheInside.{Inside}
use Rattle.session.specs.Sessions.{SessionState}

abbrev pub viewed : Inside → SessionState
viewed s = record {
  origin = s.origin;
  base = s.base;
  rows = s.loaded.nodes;
  files = s.loaded.manifest_files;
  held = s.changes;
  props = s.props;
  ids = s.ids;
}
